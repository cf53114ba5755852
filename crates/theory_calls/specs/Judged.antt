-- What Judge answers (01: Judge) of the region p of a chart (02, Note 12), for teams of any size or of one (02, Note 10): the first of rows 1 to
-- 10, 23, 12, 13 and, with a size, 21 that applies, or the verdict on the list; and 01's number for it.
-- Assumes nothing.
use Rattle.std.specs.Prelude.{cond, List, ◌∷◌, ◌++◌, ℕ, ◌+◌, ℤ, pos, neg_ℤ, Result, Ok, Err, Some, None}
use Rattle.std.proofs.Math.Option.{Option, none, some}
use Rattle.lists.specs.Range.{any, first}
use Rattle.chart.specs.Format.{decode}
use Rattle.chart.specs.Region.{Region}
use Rattle.chart.specs.Reading.{region_of}
use Rattle.chart.specs.Refusal.{Row, first_of, row_number}
use Rattle.theory_paths.specs.Admission.{region_rows}
use Rattle.theory_answers.specs.Answer.{answer_for}
use Rattle.theory_answers.specs.Size.{size_rows}
use Rattle.theory_answers.specs.declared.Size.{Size}
use Rattle.theory_answers.specs.declared.Size.TheVariants.{Any}
use Rattle.theory_calls.specs.Verdict.{Verdict}
use Rattle.theory_calls.specs.Claims.{total, odd_bytes, bad_numbers, is_false}
use Rattle.chart.specs.declared.format.Refusal.TheVariants.{OddClaims, BadNumber}
use Rattle.chart.specs.declared.format.Refusal.{Refusal}

-- Rows 12 and 13, over the list; then 21, of a size.
unfoldable pub claim_rows : Region → Size → List ℕ → List Row
claim_rows R size claims =
    record { refusal = OddClaims; applies = odd_bytes claims }
    ∷ record { refusal = BadNumber; applies = bad_numbers R claims }
    ∷ size_rows size

-- Rows 1 to 10, then 23, then those.
unfoldable pub judge_rows_for : List ℕ → ℕ → Size → List ℕ → List Row
judge_rows_for s p size claims = region_rows s p ++ claim_rows (region_of p (decode s)) size claims

abbrev pub judge_rows : List ℕ → ℕ → List ℕ → List Row
judge_rows s p claims = judge_rows_for s p Any claims

-- Of a list that is not refused: it fails with the index of the first pair that f answers 0, and passes where there is none.
unfoldable pub verdict : (ℕ → ℕ → ℕ) → List ℕ → Verdict
verdict f claims = cond (any (total claims) (is_false f claims)) (Some (first (total claims) (is_false f claims))) None

unfoldable pub answered : Option Refusal → Verdict → Result Verdict Refusal
answered none verdict = Ok verdict
answered (some refusal) verdict = Err refusal

-- Judge, over any bytes of a chart and of claims, any number that is to name a region, and any size; and without a size.
unfoldable pub judged_for : List ℕ → ℕ → Size → List ℕ → Result Verdict Refusal
judged_for s p size claims = answered (first_of (judge_rows_for s p size claims)) (verdict (answer_for (region_of p (decode s)) size) claims)

abbrev pub judged : List ℕ → ℕ → List ℕ → Result Verdict Refusal
judged s p claims = judged_for s p Any claims

-- 01's number for every case: 0 for a pass, the index plus 1 for a fail, a refusal's number negated.
unfoldable pub number_of : Result Verdict Refusal → ℤ
number_of (Ok None) = pos 0
number_of (Ok (Some index)) = pos (index + 1)
number_of (Err refusal) = neg_ℤ (pos (row_number refusal))
