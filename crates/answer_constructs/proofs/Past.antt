-- No row of the table of masks has a bit past the last node: no path leads there, and what lies nowhere holds nothing.
-- Assumes nothing.
use mathlib.Core.Path.{◌≡◌, ◌∙◌}
use mathlib.Core.List.{List}
use Prim.Native.Nat.{ℕ, ◌≤◌, ◌<◌}
use native.Mathlib.Omega.{arith}
use lib.ListN.{get_or}
use Rattle.lists.specs.Truth.{false-if}
use Rattle.lists.specs.Bits.{mask-empty}
use Rattle.chart.specs.Region.{Region}
use Rattle.chart.specs.WellFormed.{WellFormed}
use Rattle.theory_paths.specs.PathLaws.{first_edge}
use Rattle.theory_paths.specs.Phases.{Direction, forward, backward, Free, marks}
use Rattle.theory_paths.specs.PhasesLaws.{marked-means, ends-below}
use Rattle.answer_constructs.specs.Marks.{Marks}
use Rattle.answer_constructs.specs.declared.mask_table.MaskTable.{MaskTable}

module _ (R : Region) (W : WellFormed R) (x : ℕ) (l : R.nodes ≤ x) where
  nowhere : (d : Direction) (s : ℕ) → Free d R s x → ⊥
  nowhere forward s w = let m = ends-below R W w in omega arith
  nowhere backward s w = let m = W.from-below (first_edge w).1 in omega arith

  none-marked : (d : Direction) → marks d R x ≡ 0
  unfolding marks
  none-marked d = mask-empty _ _ (λ b m. false-if (λ h. nowhere d _ ((marked-means R W d x b).0 (m, h)).boundary.path))

module _ {R : Region} {marks : MaskTable} {kinds : List ℕ} (M : Marks R marks kinds) {n : ℕ} (q : R.nodes ≡ n) (x : ℕ) (l : n ≤ x) (m : x < 192) where
  pub starts-past : get_or marks.starts x 0 ≡ 0
  starts-past = M.has-starts x m ∙ none-marked R M.well-formed x (omega arith) forward

  pub ends-past : get_or marks.ends x 0 ≡ 0
  ends-past = M.has-ends x m ∙ none-marked R M.well-formed x (omega arith) backward

  pub held-past : get_or marks.held x 0 ≡ 0
  held-past = M.none-past x (omega arith)
