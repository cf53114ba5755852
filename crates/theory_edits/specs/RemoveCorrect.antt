-- What 02 asks of removal (Note 7), for a buyer: what its number and the lent bytes say about the chart in their front. It rests on what commit's
-- does, and on the rows of removal.
-- Assumes nothing.
use Rattle.std.specs.Prelude.{◌≡◌, List, ℕ, ◌-◌, ◌≤◌, ℤ, pos, neg_ℤ, length, get_or, take}
use Rattle.std.proofs.Math.Option.{none, some}
use Rattle.chart.specs.Format.{decode}
use Rattle.chart.specs.Refusal.{first_of, row_number}
use Rattle.theory_paths.specs.Admission.{Admitted}
use Rattle.theory_edits.specs.Splice.{WithEdge}
use Rattle.theory_edits.specs.Edits.{remove_rows}
use Rattle.chart.specs.declared.format.Refusal.{Refusal}

-- Removal: the chart that is left is admitted, the old one is this one with the edge (x, y), and the two freed bytes are 0.
pub record RemovedChart (old : List ℕ) (len x y : ℕ) (new : List ℕ) : Type 0 where
  pub admitted : Admitted (take (len - 2) new)
  pub without-edge : WithEdge (decode (take (len - 2) new)) (decode old) x y
  pub freed : (get_or new (len - 2) 0 ≡ 0) × (get_or new (len - 1) 0 ≡ 0)

-- The number and the lent bytes afterwards are right for the lent bytes before, the chart's length and the edge.
pub record RemoveCorrect (buffer : List ℕ) (len x y : ℕ) (number : ℤ) (new : List ℕ) : Type 0 where
  -- refused: the number of the first row that applies, negated, and the lent bytes as they were
  pub refuses : (refusal : Refusal) → first_of (remove_rows buffer len x y) ≡ some refusal → (number ≡ neg_ℤ (pos (row_number refusal))) × (new ≡ buffer)
  -- otherwise the shorter length, the chart, and past the old one the bytes that were there
  pub writes : first_of (remove_rows buffer len x y) ≡ none → (number ≡ pos (len - 2)) × RemovedChart (take len buffer) len x y new
  pub rest : first_of (remove_rows buffer len x y) ≡ none → (j : ℕ) → len ≤ j → get_or new j 0 ≡ get_or buffer j 0
  -- the buffer is as long as before
  pub long : length new ≡ length buffer
