-- What the entrance of all calls answers: the first of rows 1 to 10 and 23 that applies, or the counts of a chart, whose nodes are marked then.
-- Assumes nothing.
use Rattle.std.specs.Prelude.{◌≡◌, List, ℕ, length, Result, Ok, Err}
use Rattle.std.proofs.Math.Option.{Option, none, some}
use Rattle.chart.specs.Format.{decode}
use Rattle.chart.specs.Reading.{region, region_of}
use Rattle.chart.specs.Refusal.{first_of}
use Rattle.chart.specs.Checked.{counts_of, read_for, reading}
use Rattle.chart.specs.declared.format.Chart.{Chart}
use Rattle.mark_regions.specs.declared.outermost.Marked.{Marked}
use Rattle.theory_paths.specs.Admission.{admit_rows, region_rows}
use Rattle.theory_paths.specs.Phases.{forward, backward, barriers}
use Rattle.mark_tables.specs.Tables.{Accepted, Masks, Levels}
use Rattle.chart.specs.declared.format.Refusal.{Refusal}

unfoldable pub entered : Option Refusal → Chart → ℕ → Result Marked Refusal
entered none chart total = Ok (record { chart = chart; barriers = total })
entered (some refusal) chart total = Err refusal

-- What the entrance answers for the outermost region, and for the region p.
abbrev pub admitted : List ℕ → Result Marked Refusal
admitted s = entered (first_of (admit_rows s)) (counts_of s) (length (barriers (region (decode s))))

abbrev pub admitted_for : List ℕ → ℕ → Result Marked Refusal
admitted_for s p = entered (first_of (region_rows s p)) (read_for (counts_of s) p) (length (barriers (region_of p (decode s))))

-- What it answers for a chart that is read for a region and not refused.
abbrev pub marked : List ℕ → Chart → Result Marked Refusal
marked s chart = Ok (record { chart = chart; barriers = length (barriers (reading s chart)) })

-- What a chart that is not refused has been found to be.
pub record Entry (s : List ℕ) (chart : Chart) (total : ℕ) (starts ends levels : List ℕ) : Type 0 where
  pub accepted : Accepted s chart
  pub count : total ≡ length (barriers (reading s chart))
  pub has-starts : Masks forward (reading s chart) starts
  pub has-ends : Masks backward (reading s chart) ends
  pub has-levels : Levels forward (reading s chart) levels
