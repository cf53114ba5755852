-- Demand 2 for Phases and Admit, for a buyer: what their numbers and bytes say in barriers and barrier-free paths (`BarrierFree` and
-- `Boundary` in crate theory_paths). It rests on how a chart's bytes are read for a region (crate chart) and on the table of refusals; it
-- mentions no search and no mask.
-- Assumes nothing.
use Rattle.std.specs.Prelude.{◌≡◌, ◌↔◌, Bool, true, List, [], ℕ, suc, ◌+◌, ◌*◌, ◌/◌, ◌%◌, ◌^◌, ◌<◌, ℤ, pos, neg_ℤ, length, get_or}
use Rattle.std.proofs.Math.Option.{none, some}
use Rattle.lists.specs.Range.{count_pairs}
use Rattle.chart.specs.Format.{decode}
use Rattle.chart.specs.Region.{barrier, Region}
use Rattle.chart.specs.Reading.{region, region_of}
use Rattle.chart.specs.Refusal.{first_of, row_number}
use Rattle.theory_paths.specs.Path.{Open}
use Rattle.theory_paths.specs.Admission.{admit_rows, region_rows}
use Rattle.theory_paths.specs.Phases.{Direction, forward, backward, Boundary}
use Rattle.output.specs.Output.{output_rows}
use Rattle.output.specs.OutputCorrect.{OutputCorrect}
use Rattle.chart.specs.declared.format.Refusal.{Refusal}

-- So many barriers stand below node x.
pub data BarriersBelow (R : Region) : ℕ → ℕ → Type 0 where
  start : BarriersBelow R 0 0
  more : {x b : ℕ} → R.role x ≡ barrier → BarriersBelow R x b → BarriersBelow R (suc x) (suc b)
  same : {x b : ℕ} → Open R x → BarriersBelow R x b → BarriersBelow R (suc x) b

-- Barrier number b is node s (01: barriers are numbered from 0 by rising node number).
pub record Numbered (R : Region) (b s : ℕ) : Type 0 where
  pub is-barrier : R.role s ≡ barrier
  pub below : BarriersBelow R s b

-- Where the bits begin among a node's 16 bytes: those for starts, then those for ends.
abbrev pub place : Direction → ℕ
place forward = 0
place backward = 8

-- Bit b, of those that begin at byte `at`, 8 to a byte and the lowest first, is set.
abbrev pub BitSet : List ℕ → ℕ → ℕ → Type 0
BitSet bytes at b = get_or bytes (at + b / 8) 0 / 2 ^ (b % 8) % 2 ≡ 1

-- Phases: for each node 16 bytes, in which bit b is set exactly when barrier number b is a start of the node; in the last 8, an end.
abbrev pub PhaseBits : Region → List ℕ → Type 0
PhaseBits R new = (d : Direction) (x b : ℕ) → x < R.nodes → b < 64 → BitSet new (16 * x + place d) b ↔ ((s : ℕ) × (Numbered R b s × Boundary d R x s))

-- The number and the lent bytes afterwards are right for the bytes of a chart, the number of a region and the lent bytes before.
abbrev pub PhasesCorrect : List ℕ → ℕ → List ℕ → ℤ → List ℕ → Type 0
PhasesCorrect s p old =
    let R = region_of p (decode s) in
    OutputCorrect (output_rows (region_rows s p) (length old) (16 * R.nodes) []) (16 * R.nodes) (PhaseBits R) old

-- A phase (01: phase): some node has the start s and the end e.
abbrev pub PhaseOf : Region → ℕ → ℕ → Type 0
PhaseOf R s e = (x : ℕ) × (Boundary forward R x s × Boundary backward R x e)

-- So many pairs of numbers below n have P: as many as pass a test for it.
pub record PairCount (P : ℕ → ℕ → Type 0) (n total : ℕ) : Type 0 where
  pub test : ℕ → ℕ → Bool
  pub means : (s e : ℕ) → (test s e ≡ true) ↔ P s e
  pub counted : total ≡ count_pairs n n test

-- Admit's three counts in one number.
pub record CountsIn (R : Region) (number : ℤ) : Type 0 where
  pub barriers : ℕ
  pub phases : ℕ
  pub is-barriers : BarriersBelow R R.nodes barriers
  pub is-phases : PairCount (PhaseOf R) R.nodes phases
  pub packed : number ≡ pos (R.nodes + 256 * barriers + 65536 * phases)

-- The number is right for the bytes of a chart: Admit's counts are the outermost region's (02, Note 12).
pub record AdmitCorrect (s : List ℕ) (number : ℤ) : Type 0 where
  -- refused: the number of the first of rows 1 to 10 that applies, negated
  pub refuses : (refusal : Refusal) → first_of (admit_rows s) ≡ some refusal → number ≡ neg_ℤ (pos (row_number refusal))
  -- otherwise the counts of nodes, barriers and phases
  pub counts : first_of (admit_rows s) ≡ none → CountsIn (region (decode s)) number
