-- Calls that write a result to a lent buffer: what they return and what they leave there, by their rows in order; and C's number for every
-- answer.
-- Assumes nothing.
use Rattle.std.specs.Prelude.{List, ◌∷◌, ◌++◌, ℕ, ltb, ℤ, pos, neg_ℤ, length, drop, Result, Ok, Err}
use Rattle.std.proofs.Math.Option.{Option, none, some}
use Rattle.chart.specs.Refusal.{Row, first_of, row_number}
use Rattle.chart.specs.declared.format.Refusal.TheVariants.{NoRoom}
use Rattle.chart.specs.declared.format.Refusal.{Refusal}

-- Row 11: the buffer is shorter than the result.
unfoldable pub room_row : ℕ → ℕ → Row
room_row room size = record { refusal = NoRoom; applies = ltb room size }

-- A call's rows before row 11, row 11, and those after it.
unfoldable pub output_rows : List Row → ℕ → ℕ → List Row → List Row
output_rows before room size after = before ++ (room_row room size ∷ after)

-- An answer: so many bytes written, or the refusal.
unfoldable pub written : Option Refusal → ℕ → Result ℕ Refusal
written none size = Ok size
written (some refusal) size = Err refusal

-- What the lent bytes hold afterwards: the result, and past it what was there; or all that they held before.
unfoldable pub content : Option Refusal → List ℕ → List ℕ → List ℕ
content none result old = result ++ drop (length result) old
content (some refusal) result old = old

-- What a call with these rows answers, and what it leaves.
unfoldable pub written_by : List Row → ℕ → Result ℕ Refusal
written_by rows size = written (first_of rows) size

unfoldable pub left_by : List Row → List ℕ → List ℕ → List ℕ
left_by rows result old = content (first_of rows) result old

-- 01's number for every case: the bytes written, or the refusal's number negated.
unfoldable pub number_of : Result ℕ Refusal → ℤ
number_of (Ok count) = pos count
number_of (Err refusal) = neg_ℤ (pos (row_number refusal))
