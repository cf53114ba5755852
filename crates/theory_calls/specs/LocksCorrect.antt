-- What is asked of the call that tells which locks can be dropped, for a buyer: what its number and bytes say in runs (crate theory_team) and criticals.
-- It rests on how a chart's bytes are read for a region (crate chart) and on the table of refusals; it mentions no answer.
-- Assumes nothing.
use Rattle.std.specs.Prelude.{◌≡◌, ◌≢◌, ◌↔◌, Bool, false, List, ℕ, ◌<◌, ℤ, length, get_or}
use Rattle.chart.specs.Format.{decode}
use Rattle.chart.specs.Region.{Region}
use Rattle.chart.specs.Reading.{region_of}
use Rattle.theory_paths.specs.Admission.{region_rows}
use Rattle.theory_answers.specs.Size.{size_rows}
use Rattle.theory_answers.specs.declared.Size.{Size}
use Rattle.theory_answers.specs.declared.Size.TheVariants.{Any, Of}
use Rattle.theory_exact.specs.Droppable.{Enough, AlwaysEnough}
use Rattle.output.specs.Output.{output_rows}
use Rattle.output.specs.OutputCorrect.{OutputCorrect}
use Rattle.theory_calls.specs.Needed.{CriticalOf, Needed, EverNeeded}

-- A byte for each construct.
pub record LockBytes (R : Region) (size : Size) (new : List ℕ) : Type 0 where
  -- 255 exactly where it is no critical of the region
  pub others : (c : ℕ) → c < R.constructs → (get_or new c 0 ≡ 255) ↔ (CriticalOf R c → ⊥)
  -- 0 exactly where some finished run, with no locks, has two threads together, one inside c and the other inside a critical of c's name; 1 where
  -- no finished run has, but some run that does not finish; 2 where no run has
  pub needed : (c : ℕ) → CriticalOf R c → (get_or new c 0 ≡ 0) ↔ Needed R size c
  pub unneeded : (c : ℕ) → CriticalOf R c → (get_or new c 0 ≡ 1) ↔ ((Needed R size c → ⊥) × EverNeeded R size c)
  pub never-needed : (c : ℕ) → CriticalOf R c → (get_or new c 0 ≡ 2) ↔ (EverNeeded R size c → ⊥)
  -- the locks of any criticals that have not 0 can be dropped, all at once: those that are left are enough in finished runs; and in every run, where
  -- those dropped have 2
  pub enough : (locks : ℕ → Bool) → ((c : ℕ) → CriticalOf R c → locks c ≡ false → get_or new c 0 ≢ 0) → Enough R size locks
  pub always-enough : (locks : ℕ → Bool) → ((c : ℕ) → CriticalOf R c → locks c ≡ false → get_or new c 0 ≡ 2) → AlwaysEnough R size locks

-- The number and the lent bytes afterwards are right for the bytes of a chart, the number of a region, a size or none, and the lent bytes before:
-- rows 1 to 10, 23, 11 and, with a size, 21.
abbrev pub LocksCorrectFor : List ℕ → ℕ → Size → List ℕ → ℤ → List ℕ → Type 0
LocksCorrectFor s p size old =
    let R = region_of p (decode s) in
    OutputCorrect (output_rows (region_rows s p) (length old) R.constructs (size_rows size)) R.constructs (LockBytes R size) old

abbrev pub LocksCorrect : List ℕ → ℕ → List ℕ → ℤ → List ℕ → Type 0
LocksCorrect s p = LocksCorrectFor s p Any

abbrev pub LocksCorrectIn : List ℕ → ℕ → ℕ → List ℕ → ℤ → List ℕ → Type 0
LocksCorrectIn s p m = LocksCorrectFor s p (Of m)
