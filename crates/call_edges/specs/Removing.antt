-- Taking an edge out of a chart that is all of its bytes.
-- Assumes nothing.
use Rattle.std.specs.Prelude.{List, [], ◌∷◌, ◌++◌, ℕ}
use Rattle.chart.specs.Refusal.{Row}
use Rattle.theory_paths.specs.Admission.{admit_rows}
use Rattle.theory_edits.specs.Splice.{removed}
use Rattle.theory_edits.specs.Edits.{no_edge_row}

-- Row 19, then those of the shorter chart.
abbrev pub short_rows : List ℕ → ℕ → ℕ → List Row
short_rows s from to = no_edge_row s from to ∷ admit_rows (removed s from to)

-- That chart, and 0 for each of the two bytes that it frees.
abbrev pub short_left : List ℕ → ℕ → ℕ → List ℕ
short_left s from to = removed s from to ++ (0 ∷ 0 ∷ [])
