-- What 02 asks of commit (Note 6), for a buyer: what its number and the lent bytes say about the chart in their front. It rests on how the bytes
-- of a chart are read (crate chart), on the table of refusals and on the rows of commit (specs/Edits.antt); it mentions no place in the bytes.
-- Assumes nothing.
use Rattle.std.specs.Prelude.{List, ℕ, ◌+◌, ℤ, take}
use Rattle.chart.specs.Format.{decode}
use Rattle.theory_paths.specs.Admission.{Admitted}
use Rattle.output.specs.OutputCorrect.{OutputCorrect}
use Rattle.theory_edits.specs.Splice.{WithEdge}
use Rattle.theory_edits.specs.Edits.{commit_rows}
use Rattle.theory_edits.specs.declared.Receipt.{Receipt}

-- Commit: the chart that is written is admitted, and is the old one with the edge (x, y).
pub record InsertedChart (old : List ℕ) (size x y : ℕ) (new : List ℕ) : Type 0 where
  pub admitted : Admitted (take size new)
  pub with-edge : WithEdge (decode old) (decode (take size new)) x y

-- The number and the lent bytes afterwards are right for the lent bytes before, the chart's length, the receipt and the edge.
abbrev pub InsertCorrect : List ℕ → ℕ → Receipt → ℕ → ℕ → ℤ → List ℕ → Type 0
InsertCorrect buffer len receipt x y =
    OutputCorrect (commit_rows buffer len receipt x y) (len + 2) (InsertedChart (take len buffer) (len + 2) x y) buffer
