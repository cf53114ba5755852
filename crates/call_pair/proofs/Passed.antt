-- Where the rows before Pair's own let pass: what it answers of the region that the chart was read for is what it answers of the named one.
-- Assumes nothing.
use Rattle.std.specs.Prelude.{Result}
use mathlib.Core.Path.{◌≡◌}
use mathlib.Core.List.{List, ◌∷◌}
use mathlib.Core.Option.{none}
use Prim.Native.Nat.{ℕ}
use Rattle.chart.specs.Format.{decode}
use Rattle.chart.specs.Reading.{region_of}
use Rattle.chart.specs.Refusal.{first_of}
use Rattle.chart.proofs.Rows.{second-decides}
use Rattle.theory_paths.specs.Admission.{region_rows}
use Rattle.theory_answers.specs.declared.Answer.{Answer}
use Rattle.theory_answers.specs.Answer.{answer_for}
use Rattle.theory_answers.specs.Size.{size_rows}
use Rattle.theory_answers.specs.declared.Size.{Size}
use Rattle.theory_calls.specs.Pair.{numbers_row, pair_rows_for, answered, pair_answered_for}
use Rattle.chart.specs.declared.format.Refusal.{Refusal}

module _ (s : List ℕ) (p read : ℕ) (named : read ≡ p) (passes : first_of (region_rows s p) ≡ none) where
  pub pair-passed : (size : Size) (a b : ℕ) {r : Result Answer Refusal}
      → r ≡ answered (first_of (numbers_row (region_of read (decode s)) a b ∷ size_rows size)) (answer_for (region_of read (decode s)) size a b)
      → r ≡ pair_answered_for s p size a b
  unfolding pair_answered_for pair_rows_for
  pair-passed size a b h = rw (second-decides (region_rows s p) (numbers_row (region_of p (decode s)) a b ∷ size_rows size) passes) (rw named at h)
