-- Phases (01: Phases) of a region of a chart (02, Note 12): for each node 16 bytes, starts and ends, 8 bytes each, bit b for barrier b of the region;
-- all 0 for a barrier and for a node outside the region.
-- Assumes nothing.
use Rattle.std.specs.Prelude.{cond, List, [], ℕ, ◌*◌, ◌/◌, ◌%◌, ltb, length, Result}
use Rattle.lists.specs.Tab.{tab}
use Rattle.chart.specs.Format.{decode}
use Rattle.chart.specs.Region.{Region}
use Rattle.chart.specs.Reading.{region_of}
use Rattle.chart.specs.Refusal.{Row}
use Rattle.theory_paths.specs.Admission.{region_rows}
use Rattle.theory_paths.specs.Phases.{starts, ends}
use Rattle.output.specs.Output.{output_rows, written_by, left_by}
use Rattle.theory_calls.specs.Bytes.{byte_of}
use Rattle.chart.specs.declared.format.Refusal.{Refusal}

-- byte j of the result
unfoldable pub phase_byte : Region → ℕ → ℕ
phase_byte R j = byte_of (cond (ltb (j % 16) 8) (starts R (j / 16)) (ends R (j / 16))) (j % 8)

unfoldable pub phases_result : Region → List ℕ
phases_result R = tab (16 * R.nodes) (phase_byte R)

-- Rows 1 to 10, then 23, then 11.
abbrev pub phases_rows : List ℕ → ℕ → List ℕ → List Row
phases_rows s p out = output_rows (region_rows s p) (length out) (length (phases_result (region_of p (decode s)))) []

-- What Phases returns, and what the buffer holds then.
abbrev pub phases_written : List ℕ → ℕ → List ℕ → Result ℕ Refusal
phases_written s p out = written_by (phases_rows s p out) (length (phases_result (region_of p (decode s))))

abbrev pub phases_left : List ℕ → ℕ → List ℕ → List ℕ
phases_left s p out = left_by (phases_rows s p out) (phases_result (region_of p (decode s))) out
