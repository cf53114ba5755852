-- Rows 1 to 10 of a chart in the front of a buffer, and asking about an edge of a chart that they let pass.
-- Assumes nothing.
use Rattle.std.specs.Prelude.{List, ◌∷◌, ℕ, length, take, Result}
use Rattle.chart.specs.Format.{decode}
use Rattle.chart.specs.Refusal.{Row, first_of}
use Rattle.theory_paths.specs.Admission.{admit_rows}
use Rattle.theory_edits.specs.Splice.{place, inserted}
use Rattle.theory_edits.specs.Edits.{length_row, asked_by}
use Rattle.theory_edits.specs.declared.Receipt.{Receipt}
use Rattle.chart.specs.declared.format.Refusal.{Refusal}

abbrev pub front_rows : List ℕ → ℕ → List Row
front_rows buffer len = length_row (length buffer) len ∷ admit_rows (take len buffer)

abbrev pub receipt_on : List ℕ → ℕ → ℕ → Receipt
receipt_on s from to = record { length = length s; place = place (decode s).edges from to }

-- By the rows of the longer chart.
abbrev pub asked_on : List ℕ → ℕ → ℕ → Result Receipt Refusal
asked_on s from to = asked_by (first_of (admit_rows (inserted s from to))) (receipt_on s from to)
