-- Each region of an admitted chart is well formed and connected.
-- Assumes nothing.
use Rattle.std.specs.Prelude.{◌≡◌, refl, ℕ}
use Rattle.std.proofs.Common.{sym, ◌∙◌}
use mathlib.Core.List.{List, [], ◌∷◌, ◌++◌}
use Rattle.std.proofs.Math.Option.{Option, none, some}
use Rattle.chart.specs.Format.{outside, decode}
use Rattle.chart.specs.Reading.{region, region_of}
use Rattle.chart.specs.Refusal.{Row, first_of, chart_rows}
use Rattle.chart.specs.WellFormed.{WellFormed}
use Rattle.chart.proofs.Rows.{none-applies, first-decides, second-decides, both-pass}
use Rattle.chart.proofs.Facts.{Named, names-fit}
use Rattle.chart.proofs.Accepted.{fits, well-formed}
use Rattle.theory_paths.specs.Connected.{Connected}
use Rattle.theory_paths.specs.Admission.{bad_paths, admit_rows, bad_region, region_rows, AdmittedIn}
use Rattle.theory_paths.specs.Inner.{connected-in}
use Rattle.chart.specs.declared.format.Refusal.TheVariants.{BadPaths, NoRegion}
use Rattle.chart.specs.declared.format.Refusal.{Refusal}

module _ (s : List ℕ) (p : ℕ) (admitted : AdmittedIn s p) where
  pub admitted-rows : first_of (chart_rows s) ≡ none
  unfolding region_rows admit_rows
  admitted-rows = (both-pass (chart_rows s) _ (both-pass (admit_rows s) _ admitted).0).0

  pub admitted-named : Named (decode s).constructs p
  unfolding region_rows bad_region
  admitted-named =
      let rows : List Row = record { refusal = NoRegion; applies = bad_region (decode s) p } ∷ [] in
      names-fit (decode s).constructs p (none-applies rows (both-pass (admit_rows s) rows admitted).1).0

  pub admitted-well-formed : WellFormed (region_of p (decode s))
  admitted-well-formed = well-formed s admitted-rows p admitted-named

  pub admitted-connected : Connected (region_of p (decode s))
  unfolding region_rows admit_rows
  admitted-connected =
      let rows : List Row = record { refusal = BadPaths; applies = bad_paths (region (decode s)) } ∷ [] in
      let f = fits s admitted-rows in
      connected-in (decode s) f.0 f.1 (none-applies rows (both-pass (chart_rows s) rows (both-pass (admit_rows s) _ admitted).0).1).0 p admitted-named

-- the number 255 always names a region
pub outermost-rows : (s : List ℕ) → first_of (region_rows s outside) ≡ first_of (admit_rows s)
unfolding region_rows bad_region first_of
outermost-rows s = go (first_of (admit_rows s)) refl
  where
    rows : List Row
    rows = record { refusal = NoRegion; applies = bad_region (decode s) outside } ∷ []

    go : (o : Option Refusal) → first_of (admit_rows s) ≡ o → first_of (admit_rows s ++ rows) ≡ first_of (admit_rows s)
    go none h = second-decides (admit_rows s) rows h ∙ sym h
    go (some row) h = first-decides (admit_rows s) rows row h ∙ sym h
