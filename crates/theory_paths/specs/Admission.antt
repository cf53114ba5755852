-- Row 10 of the refusals, and rows 1 to 10: a chart to which none of them applies is admitted; and row 23, of the number that names a region.
-- Assumes nothing.
use Rattle.std.specs.Prelude.{◌≡◌, Bool, ◌&&◌, ◌||◌, not, List, [], ◌∷◌, ◌++◌, ℕ, eqb}
use Rattle.std.proofs.Math.Option.{none}
use Rattle.lists.specs.Range.{any}
use Rattle.chart.specs.Format.{outside, Decoded, decode}
use Rattle.chart.specs.Nested.{is_parallel}
use Rattle.chart.specs.Region.{Region}
use Rattle.chart.specs.Reading.{region}
use Rattle.chart.specs.Refusal.{Row, first_of, chart_rows}
use Rattle.theory_paths.specs.Decide.{reaches_any}
use Rattle.chart.specs.declared.format.Refusal.TheVariants.{BadPaths, NoRegion}

-- Row 10, over the outermost region, of one node: other than start and not reached from start, or other than finish and not reaching finish, along edges.
unfoldable pub cut_off : Region → ℕ → Bool
cut_off R x =
    (not (eqb x R.start) && not (reaches_any R R.start x)) || (not (eqb x R.finish) && not (reaches_any R x R.finish))

unfoldable pub bad_paths : Region → Bool
bad_paths R = any R.nodes (cut_off R)

-- Rows 1 to 10.
unfoldable pub admit_rows : List ℕ → List Row
admit_rows s = chart_rows s ++ (record { refusal = BadPaths; applies = bad_paths (region (decode s)) } ∷ [])

-- The bytes are those of a chart to which none of rows 1 to 10 applies (01: admitted).
abbrev pub Admitted : List ℕ → Type 0
Admitted s = first_of (admit_rows s) ≡ none

-- Row 23 (02, Note 12): a number other than 255 that names no parallel.
unfoldable pub bad_region : Decoded → ℕ → Bool
bad_region D p = not (eqb p outside) && not (is_parallel D.constructs p)

-- Rows 1 to 10, then 23: what each call that names a region asks first.
unfoldable pub region_rows : List ℕ → ℕ → List Row
region_rows s p = admit_rows s ++ (record { refusal = NoRegion; applies = bad_region (decode s) p } ∷ [])

-- The bytes are those of an admitted chart, and p is the number of one of its regions.
abbrev pub AdmittedIn : List ℕ → ℕ → Type 0
AdmittedIn s p = first_of (region_rows s p) ≡ none
