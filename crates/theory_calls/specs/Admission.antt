-- What Admit answers (01: Admit): the first of rows 1 to 10 that applies, or the counts of nodes, barriers and phases.
-- Assumes nothing.
use Rattle.std.specs.Prelude.{List, ℕ, ◌+◌, ◌*◌, ℤ, pos, neg_ℤ, length, Result, Ok, Err}
use Rattle.std.proofs.Math.Option.{Option, none, some}
use Rattle.chart.specs.Format.{decode}
use Rattle.chart.specs.Region.{Region}
use Rattle.chart.specs.Reading.{region}
use Rattle.chart.specs.Refusal.{first_of, row_number}
use Rattle.theory_paths.specs.Admission.{admit_rows}
use Rattle.theory_paths.specs.Phases.{barriers, phase_count}
use Rattle.theory_calls.specs.declared.Counts.{Counts}
use Rattle.chart.specs.declared.format.Refusal.{Refusal}

unfoldable pub region_counts : Region → Counts
region_counts R = record { nodes = R.nodes; barriers = length (barriers R); phases = phase_count R }

unfoldable pub admission_by : Option Refusal → Counts → Result Counts Refusal
admission_by none counts = Ok counts
admission_by (some refusal) counts = Err refusal

-- Rows 1 to 10 over any bytes.
unfoldable pub admitted : List ℕ → Result Counts Refusal
admitted s = admission_by (first_of (admit_rows s)) (region_counts (region (decode s)))

-- 01's number for every case: nodes + 256 × barriers + 65,536 × phases, and a refusal's number negated.
unfoldable pub number_of : Result Counts Refusal → ℤ
number_of (Ok counts) = pos (counts.nodes + 256 * counts.barriers + 65536 * counts.phases)
number_of (Err refusal) = neg_ℤ (pos (row_number refusal))
