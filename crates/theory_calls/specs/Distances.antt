-- Distances (02, Note 13) of a region of a chart: for each node one byte, the fewest edges on a barrier-free path to it from any barrier; 255 for a
-- barrier and for a node outside the region.
-- Assumes nothing.
use Rattle.std.specs.Prelude.{cond, List, [], ℕ, length, Result}
use Rattle.lists.specs.Tab.{tab}
use Rattle.chart.specs.Format.{decode}
use Rattle.chart.specs.Region.{Region}
use Rattle.chart.specs.Reading.{region_of}
use Rattle.chart.specs.Refusal.{Row}
use Rattle.theory_paths.specs.Admission.{region_rows}
use Rattle.theory_paths.specs.Phases.{forward, nearest}
use Rattle.theory_answers.specs.Numbers.{asked}
use Rattle.output.specs.Output.{output_rows, written_by, left_by}
use Rattle.chart.specs.declared.format.Refusal.{Refusal}

-- the byte of node x
unfoldable pub distance_byte : Region → ℕ → ℕ
distance_byte R x = cond (asked R x) (nearest forward R x) 255

unfoldable pub distances_result : Region → List ℕ
distances_result R = tab R.nodes (distance_byte R)

-- Rows 1 to 10, then 23, then 11.
abbrev pub distances_rows : List ℕ → ℕ → List ℕ → List Row
distances_rows s p out = output_rows (region_rows s p) (length out) (length (distances_result (region_of p (decode s)))) []

-- What Distances returns, and what the buffer holds then.
abbrev pub distances_written : List ℕ → ℕ → List ℕ → Result ℕ Refusal
distances_written s p out = written_by (distances_rows s p out) (length (distances_result (region_of p (decode s))))

abbrev pub distances_left : List ℕ → ℕ → List ℕ → List ℕ
distances_left s p out = left_by (distances_rows s p out) (distances_result (region_of p (decode s))) out
