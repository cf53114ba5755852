-- Rows 1 to 10 by the outcome of rows 1 to 9: `check` has refused a chart, or let it pass, and then row 10 decides.
-- Assumes nothing.
use Rattle.std.specs.Prelude.{Ok, Err}
use mathlib.Core.Path.{◌≡◌, ◌∙◌}
use mathlib.Core.Bool.{true, false}
use mathlib.Core.List.{List, [], ◌∷◌}
use mathlib.Core.Option.{none, some}
use Prim.Native.Nat.{ℕ}
use Rattle.chart.specs.Format.{decode}
use Rattle.chart.specs.Reading.{region}
use Rattle.chart.specs.Refusal.{Row, first_of, chart_rows}
use Rattle.chart.specs.Checked.{counts_of, checked}
use Rattle.chart.specs.declared.format.Chart.{Chart}
use Rattle.chart.specs.declared.format.Refusal.{Refusal}
use Rattle.chart.proofs.Rows.{first-decides, second-decides}
use Rattle.check_chart.proofs.Outcome.{refused-some}
use Rattle.theory_paths.specs.Admission.{bad_paths, admit_rows}
use Rattle.mark_tables.proofs.Accepted.{passed}
use Rattle.chart.specs.declared.format.Refusal.TheVariants.{BadPaths}

module _ (s : List ℕ) where
  abbrev last : List Row
  last = record { refusal = BadPaths; applies = bad_paths (region (decode s)) } ∷ []

  pub refused-before : (refusal : Refusal) → checked s ≡ Err refusal → first_of (admit_rows s) ≡ some refusal
  unfolding admit_rows checked
  refused-before refusal h = first-decides (chart_rows s) last _ (refused-some _ (counts_of s) refusal h)

  pub refused-paths : (chart : Chart) → checked s ≡ Ok chart → bad_paths (region (decode s)) ≡ true → first_of (admit_rows s) ≡ some BadPaths
  unfolding admit_rows first_of
  refused-paths chart h b = second-decides (chart_rows s) last (passed s chart h) ∙ rw b

  pub admits : (chart : Chart) → checked s ≡ Ok chart → bad_paths (region (decode s)) ≡ false → first_of (admit_rows s) ≡ none
  unfolding admit_rows first_of
  admits chart h b = second-decides (chart_rows s) last (passed s chart h) ∙ rw b
