-- What is asked of a call that writes a result to a lent buffer, over its rows of refusals, the lent bytes before the call, its number and the
-- lent bytes after it. What the result is to say is handed in: `Holds`, of the lent bytes.
-- Assumes nothing.
use Rattle.std.specs.Prelude.{◌≡◌, List, ℕ, ◌≤◌, ℤ, pos, neg_ℤ, length, get_or}
use Rattle.std.proofs.Math.Option.{none, some}
use Rattle.chart.specs.Refusal.{Row, first_of, row_number}
use Rattle.chart.specs.declared.format.Refusal.{Refusal}

-- A result of this size is written as it should be.
pub record OutputCorrect (rows : List Row) (size : ℕ) (Holds : List ℕ → Type 0) (old : List ℕ) (number : ℤ) (new : List ℕ) : Type 0 where
  -- refused: the number of the first row that applies, negated, and the lent bytes as they were
  pub refuses : (refusal : Refusal) → first_of rows ≡ some refusal → (number ≡ neg_ℤ (pos (row_number refusal))) × (new ≡ old)
  -- otherwise the number of bytes written, the result, and past it the bytes that were there
  pub writes : first_of rows ≡ none → (number ≡ pos size) × Holds new
  pub rest : first_of rows ≡ none → (j : ℕ) → size ≤ j → get_or new j 0 ≡ get_or old j 0
  -- the buffer is as long as before
  pub long : length new ≡ length old
