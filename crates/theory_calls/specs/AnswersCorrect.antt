-- Demand 2 for Pair and Sheet, for a buyer, without a team size and with one (02, Note 10): what their numbers and bytes say by the pair rules,
-- which are worded in paths and constructs (`Excludes`, `Answers` and `AnswersIn` in crate theory_answers). It rests on how a chart's bytes are read
-- for a region (crate chart) and on the table of refusals.
-- Assumes nothing.
use Rattle.std.specs.Prelude.{◌≡◌, List, ℕ, ◌+◌, ◌*◌, ◌<◌, ℤ, pos, neg_ℤ, length, get_or}
use Rattle.std.proofs.Math.Option.{none, some}
use Rattle.chart.specs.Format.{decode}
use Rattle.chart.specs.Region.{Region}
use Rattle.chart.specs.Reading.{region_of}
use Rattle.chart.specs.Refusal.{first_of, row_number}
use Rattle.theory_paths.specs.Admission.{region_rows}
use Rattle.theory_answers.specs.Unexcluded.{AnswersFor}
use Rattle.theory_answers.specs.Numbers.{Asked}
use Rattle.theory_answers.specs.Size.{size_rows}
use Rattle.theory_answers.specs.declared.Size.{Size}
use Rattle.theory_answers.specs.declared.Size.TheVariants.{Any, Of}
use Rattle.output.specs.Output.{output_rows}
use Rattle.output.specs.OutputCorrect.{OutputCorrect}
use Rattle.theory_calls.specs.Pair.{pair_rows_for}
use Rattle.chart.specs.declared.format.Refusal.{Refusal}

-- Pair: the number is right for the bytes of a chart, the number of a region, a size or none, and two node numbers.
pub record PairCorrectFor (s : List ℕ) (p : ℕ) (size : Size) (a b : ℕ) (number : ℤ) : Type 0 where
  -- refused: the number of the first of rows 1 to 10, 23, 13 and, with a size, 21 that applies, negated
  pub refuses : (refusal : Refusal) → first_of (pair_rows_for s p size a b) ≡ some refusal → number ≡ neg_ℤ (pos (row_number refusal))
  -- otherwise the answer
  pub answers : first_of (pair_rows_for s p size a b) ≡ none → (k : ℕ) × ((number ≡ pos k) × AnswersFor (region_of p (decode s)) size a b k)

abbrev pub PairCorrect : List ℕ → ℕ → ℕ → ℕ → ℤ → Type 0
PairCorrect s p = PairCorrectFor s p Any

abbrev pub PairCorrectIn : List ℕ → ℕ → ℕ → ℕ → ℕ → ℤ → Type 0
PairCorrectIn s p m = PairCorrectFor s p (Of m)

-- Sheet: byte a * n + b is the answer for a and b, where both are nodes of the region and no barriers, and 255 elsewhere.
pub record SheetBytes (R : Region) (size : Size) (new : List ℕ) : Type 0 where
  pub answers : (a b : ℕ) → Asked R a → Asked R b → AnswersFor R size a b (get_or new (a * R.nodes + b) 0)
  pub barriers : (a b : ℕ) → a < R.nodes → b < R.nodes → (Asked R a × Asked R b → ⊥) → get_or new (a * R.nodes + b) 0 ≡ 255

-- The number and the lent bytes afterwards are right for the bytes of a chart, the number of a region, a size or none, and the lent bytes before:
-- rows 1 to 10, 23, 11 and, with a size, 21.
abbrev pub SheetCorrectFor : List ℕ → ℕ → Size → List ℕ → ℤ → List ℕ → Type 0
SheetCorrectFor s p size old =
    let R = region_of p (decode s) in
    OutputCorrect (output_rows (region_rows s p) (length old) (R.nodes * R.nodes) (size_rows size)) (R.nodes * R.nodes) (SheetBytes R size) old

abbrev pub SheetCorrect : List ℕ → ℕ → List ℕ → ℤ → List ℕ → Type 0
SheetCorrect s p = SheetCorrectFor s p Any

abbrev pub SheetCorrectIn : List ℕ → ℕ → ℕ → List ℕ → ℤ → List ℕ → Type 0
SheetCorrectIn s p m = SheetCorrectFor s p (Of m)
