-- What 02 asks of asking (Note 6), for a buyer: what its number and its receipt say, by the rows of asking.
-- Assumes nothing.
use Rattle.std.specs.Prelude.{◌≡◌, List, ℕ, ℤ, pos, neg_ℤ}
use Rattle.std.proofs.Math.Option.{Option, none, some}
use Rattle.chart.specs.Refusal.{first_of, row_number}
use Rattle.theory_edits.specs.Edits.{ask_rows, receipt_for}
use Rattle.theory_edits.specs.declared.Receipt.{Receipt}
use Rattle.chart.specs.declared.format.Refusal.{Refusal}

-- The number and the receipt are right for the bytes, the chart's length and the edge.
pub record AskCorrect (buffer : List ℕ) (len x y : ℕ) (number : ℤ) (receipt : Option Receipt) : Type 0 where
  -- refused: the number of the first row that applies, negated, and no receipt
  pub refuses : (refusal : Refusal) → first_of (ask_rows buffer len x y) ≡ some refusal → (number ≡ neg_ℤ (pos (row_number refusal))) × (receipt ≡ none)
  -- otherwise 0, and the present chart's length with the new record's place
  pub admits : first_of (ask_rows buffer len x y) ≡ none → (number ≡ pos 0) × (receipt ≡ some (receipt_for buffer len x y))
