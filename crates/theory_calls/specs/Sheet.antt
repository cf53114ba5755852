-- Sheet (01: Sheet) of a region of a chart (02, Note 12), for teams of any size or of one (02, Note 10): n rows of n answers, one byte each; 255
-- where either node is a barrier or outside the region.
-- Assumes nothing.
use Rattle.std.specs.Prelude.{List, ℕ, length, Result}
use Rattle.chart.specs.Format.{decode}
use Rattle.chart.specs.Reading.{region_of}
use Rattle.chart.specs.Refusal.{Row}
use Rattle.theory_paths.specs.Admission.{region_rows}
use Rattle.theory_answers.specs.Answer.{answer_for}
use Rattle.theory_answers.specs.Size.{size_rows}
use Rattle.theory_answers.specs.Sheet.{sheet}
use Rattle.theory_answers.specs.declared.Size.{Size}
use Rattle.theory_answers.specs.declared.Size.TheVariants.{Any}
use Rattle.output.specs.Output.{output_rows, written_by, left_by}
use Rattle.chart.specs.declared.format.Refusal.{Refusal}

-- What is written.
abbrev pub sheet_result : List ℕ → ℕ → Size → List ℕ
sheet_result s p size = let R = region_of p (decode s) in sheet R (answer_for R size)

-- Rows 1 to 10, then 23, then 11, then 21, of a size.
abbrev pub sheet_rows_for : List ℕ → ℕ → Size → List ℕ → List Row
sheet_rows_for s p size out = output_rows (region_rows s p) (length out) (length (sheet_result s p size)) (size_rows size)

-- What Sheet returns, and what the buffer holds then.
abbrev pub sheet_written_for : List ℕ → ℕ → Size → List ℕ → Result ℕ Refusal
sheet_written_for s p size out = written_by (sheet_rows_for s p size out) (length (sheet_result s p size))

abbrev pub sheet_left_for : List ℕ → ℕ → Size → List ℕ → List ℕ
sheet_left_for s p size out = left_by (sheet_rows_for s p size out) (sheet_result s p size) out

-- The same without a size.
abbrev pub sheet_written : List ℕ → ℕ → List ℕ → Result ℕ Refusal
sheet_written s p out = sheet_written_for s p Any out

abbrev pub sheet_left : List ℕ → ℕ → List ℕ → List ℕ
sheet_left s p out = sheet_left_for s p Any out
