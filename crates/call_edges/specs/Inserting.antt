-- Putting an edge in, by a receipt.
-- Assumes nothing.
use Rattle.std.specs.Prelude.{List, [], ◌∷◌, ℕ}
use Rattle.chart.specs.Refusal.{Row}
use Rattle.theory_edits.specs.Edits.{receipt_row, space_row}
use Rattle.theory_edits.specs.declared.Receipt.{Receipt}

-- Rows 17 and 18.
abbrev pub late_rows : ℕ → Receipt → Receipt → List Row
late_rows room receipt present = receipt_row receipt present ∷ space_row room present.length ∷ []
