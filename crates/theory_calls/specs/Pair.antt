-- Pair (01: Pair) in a region of a chart (02, Note 12), for teams of any size or of one (02, Note 10): rows 1 to 10, 23, 13 and, with a size, 21,
-- or the answer for two nodes; and C's number for every case.
-- Assumes nothing.
use Rattle.std.specs.Prelude.{◌||◌, List, ◌∷◌, ◌++◌, ℕ, ℤ, pos, neg_ℤ, Result, Ok, Err}
use Rattle.std.proofs.Math.Option.{Option, none, some}
use Rattle.chart.specs.Format.{decode}
use Rattle.chart.specs.Region.{Region}
use Rattle.chart.specs.Reading.{region_of}
use Rattle.chart.specs.Refusal.{Row, first_of, row_number}
use Rattle.theory_paths.specs.Admission.{region_rows}
use Rattle.theory_answers.specs.Answer.{answer_for}
use Rattle.theory_answers.specs.Numbers.{bad_number}
use Rattle.theory_answers.specs.Size.{size_rows}
use Rattle.theory_answers.specs.declared.Answer.{Answer}
use Rattle.theory_answers.specs.declared.Size.{Size}
use Rattle.theory_answers.specs.declared.Size.TheVariants.{Any}
use Rattle.chart.specs.declared.format.Refusal.TheVariants.{BadNumber}
use Rattle.chart.specs.declared.format.Refusal.{Refusal}

-- Row 13: one of the two numbers is that of no node of the region, or a barrier's.
unfoldable pub numbers_row : Region → ℕ → ℕ → Row
numbers_row R a b = record { refusal = BadNumber; applies = bad_number R a || bad_number R b }

-- Rows 1 to 10, then 23, then 13, then 21, of a size.
unfoldable pub pair_rows_for : List ℕ → ℕ → Size → ℕ → ℕ → List Row
pair_rows_for s p size a b = region_rows s p ++ (numbers_row (region_of p (decode s)) a b ∷ size_rows size)

abbrev pub pair_rows : List ℕ → ℕ → ℕ → ℕ → List Row
pair_rows s p a b = pair_rows_for s p Any a b

unfoldable pub answered : Option Refusal → ℕ → Result Answer Refusal
answered none number = Ok (record { number = number })
answered (some refusal) other = Err refusal

-- What Pair answers, over any bytes, any number that is to name a region, any size and any two numbers; and without a size.
unfoldable pub pair_answered_for : List ℕ → ℕ → Size → ℕ → ℕ → Result Answer Refusal
pair_answered_for s p size a b = answered (first_of (pair_rows_for s p size a b)) (answer_for (region_of p (decode s)) size a b)

abbrev pub pair_answered : List ℕ → ℕ → ℕ → ℕ → Result Answer Refusal
pair_answered s p a b = pair_answered_for s p Any a b

-- 01's number for every case: the answer, or the refusal's number negated.
unfoldable pub number_of : Result Answer Refusal → ℤ
number_of (Ok answer) = pos answer.number
number_of (Err refusal) = neg_ℤ (pos (row_number refusal))
