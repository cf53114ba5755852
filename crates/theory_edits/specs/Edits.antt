-- Asking, commit and removal (02, Notes 6 and 7): their rows in order, what each answers and what it leaves in the lent bytes. The chart is the first
-- `len` bytes of a buffer.
-- Assumes nothing.
use Rattle.std.specs.Prelude.{◌&&◌, not, List, [], ◌∷◌, ◌++◌, ℕ, ◌+◌, ◌-◌, eqb, ltb, ℤ, pos, neg_ℤ, length, take, Result, Ok, Err}
use Rattle.std.proofs.Math.Option.{Option, none, some}
use Rattle.chart.specs.Format.{decode}
use Rattle.chart.specs.Reading.{edge_in}
use Rattle.chart.specs.Refusal.{Row, first_of, row_number}
use Rattle.theory_paths.specs.Admission.{admit_rows}
use Rattle.output.specs.Output.{written_by, left_by}
use Rattle.theory_edits.specs.Splice.{place, inserted, removed}
use Rattle.theory_edits.specs.declared.Receipt.{Receipt}
use Rattle.chart.specs.declared.format.Refusal.TheVariants.{BadLengths, OldReceipt, NoSpace, NoEdge}
use Rattle.chart.specs.declared.format.Refusal.{Refusal}

-- Row 4, first of all: the length is beyond the buffer.
unfoldable pub length_row : ℕ → ℕ → Row
length_row room len = record { refusal = BadLengths; applies = ltb room len }

-- Then rows 1 to 10 on the present chart, then on the longer one. The edge's numbers are any: one that no node has, though it fit no byte, gives row 9 of
-- the longer chart, or row 3 before it where there are 1,024 edges already (proofs/NoNode.antt).
unfoldable pub ask_rows : List ℕ → ℕ → ℕ → ℕ → List Row
ask_rows buffer len from to =
    let s = take len buffer in
    length_row (length buffer) len ∷ (admit_rows s ++ admit_rows (inserted s from to))

-- The receipt for the edge (02: receipt).
unfoldable pub receipt_for : List ℕ → ℕ → ℕ → ℕ → Receipt
receipt_for buffer len from to = record { length = len; place = place (decode (take len buffer)).edges from to }

unfoldable pub asked_by : Option Refusal → Receipt → Result Receipt Refusal
asked_by none receipt = Ok receipt
asked_by (some refusal) receipt = Err refusal

-- Asking, over any bytes, any length and any edge.
unfoldable pub asked : List ℕ → ℕ → ℕ → ℕ → Result Receipt Refusal
asked buffer len from to = asked_by (first_of (ask_rows buffer len from to)) (receipt_for buffer len from to)

-- 01's number for every case: 0 where the longer chart would be admitted, a refusal's number negated.
unfoldable pub number_of : Result Receipt Refusal → ℤ
number_of (Ok receipt) = pos 0
number_of (Err refusal) = neg_ℤ (pos (row_number refusal))

-- The receipt of every case: none with a refusal.
unfoldable pub receipt_of : Result Receipt Refusal → Option Receipt
receipt_of (Ok receipt) = some receipt
receipt_of (Err refusal) = none

-- Row 17: the receipt's length or place no longer agrees. Row 18: the buffer lacks two bytes past the chart.
unfoldable pub receipt_row : Receipt → Receipt → Row
receipt_row receipt now =
    record { refusal = OldReceipt; applies = not (eqb receipt.length now.length && eqb receipt.place now.place) }

unfoldable pub space_row : ℕ → ℕ → Row
space_row room len = record { refusal = NoSpace; applies = ltb room (len + 2) }

-- Commit asks again; then 17; last 18.
unfoldable pub commit_rows : List ℕ → ℕ → Receipt → ℕ → ℕ → List Row
commit_rows buffer len receipt from to =
    ask_rows buffer len from to ++ (receipt_row receipt (receipt_for buffer len from to) ∷ space_row (length buffer) len ∷ [])

unfoldable pub insert_written : List ℕ → ℕ → Receipt → ℕ → ℕ → Result ℕ Refusal
insert_written buffer len receipt from to = written_by (commit_rows buffer len receipt from to) (len + 2)

unfoldable pub insert_left : List ℕ → ℕ → Receipt → ℕ → ℕ → List ℕ
insert_left buffer len receipt from to = left_by (commit_rows buffer len receipt from to) (inserted (take len buffer) from to) buffer

-- Row 19: no such edge, so none with a number that no node has.
unfoldable pub no_edge_row : List ℕ → ℕ → ℕ → Row
no_edge_row s from to = record { refusal = NoEdge; applies = not (edge_in (decode s).edges from to) }

-- Removal: 4; rows 1 to 10 on the present chart; 19, no such edge; then rows 1 to 10 on the shorter chart.
unfoldable pub remove_rows : List ℕ → ℕ → ℕ → ℕ → List Row
remove_rows buffer len from to =
    let s = take len buffer in
    length_row (length buffer) len ∷ (admit_rows s ++ (no_edge_row s from to ∷ admit_rows (removed s from to)))

unfoldable pub remove_written : List ℕ → ℕ → ℕ → ℕ → Result ℕ Refusal
remove_written buffer len from to = written_by (remove_rows buffer len from to) (len - 2)

-- The shorter chart, and 0 for each of the two bytes that it frees.
unfoldable pub remove_left : List ℕ → ℕ → ℕ → ℕ → List ℕ
remove_left buffer len from to = left_by (remove_rows buffer len from to) (removed (take len buffer) from to ++ (0 ∷ 0 ∷ [])) buffer
