-- Row 23 after rows 1 to 10: what the entrance answers for a region that is named.
-- Assumes nothing.
use Rattle.std.specs.Prelude.{Result, Ok, Err}
use mathlib.Core.Path.{◌≡◌, refl}
use mathlib.Core.Bool.{true, false, not}
use mathlib.Core.Logic.{◌≢◌}
use mathlib.Core.List.{List, [], ◌∷◌}
use mathlib.Core.Option.{none, some}
use Prim.Native.Nat.{ℕ, ◌≤◌, ◌<◌}
use native.Mathlib.Omega.{arith}
use lib.Dec.{eqb}
use lib.ListN.{length}
use borrow.Author.Tests.{ne_eqb}
use Rattle.lists.specs.Truth.{false-if}
use Rattle.chart.specs.Format.{outside, Decoded, decode, construct_at}
use Rattle.chart.specs.Scope.{parallel_byte}
use Rattle.chart.specs.Nested.{is_parallel}
use Rattle.chart.specs.Reading.{region_of}
use Rattle.chart.specs.Refusal.{Row, first_of}
use Rattle.chart.specs.Checked.{counts_of, read_for}
use Rattle.chart.specs.declared.format.Chart.{Chart}
use Rattle.chart.proofs.Constructs.{parallel-below}
use Rattle.chart.proofs.Rows.{first-decides, second-decides}
use Rattle.chart.proofs.Facts.{Named, names-fit}
use Rattle.theory_paths.specs.Admission.{admit_rows, bad_region, region_rows}
use Rattle.theory_paths.specs.AdmissionLaws.{outermost-rows}
use Rattle.theory_paths.specs.Phases.{barriers}
use Rattle.mark_regions.specs.declared.outermost.Marked.{Marked}
use Rattle.mark_regions.specs.Entered.{entered, admitted, admitted_for}
use Rattle.chart.specs.declared.format.Refusal.TheVariants.{NoRegion}
use Rattle.chart.specs.declared.format.Refusal.{Refusal}

-- a number names a parallel's region where that construct is a parallel
module _ (D : Decoded) (p : ℕ) (n : p ≢ outside) where
  pub names-none : length D.constructs ≤ p → bad_region D p ≡ true
  unfolding bad_region
  names-none l = rw (ne_eqb p outside n, false-if (λ h. past (parallel-below D.constructs p h))) refl
    where
      past : p < length D.constructs → ⊥
      past h = omega arith

  pub names-kind : bad_region D p ≡ not (eqb (construct_at D.constructs p).kind parallel_byte)
  unfolding bad_region is_parallel
  names-kind = rw (ne_eqb p outside n)

module _ (s : List ℕ) (p : ℕ) where
  abbrev last : List Row
  last = record { refusal = NoRegion; applies = bad_region (decode s) p } ∷ []

  pub refused-first : (refusal : Refusal) → first_of (admit_rows s) ≡ some refusal → Err refusal ≡ admitted_for s p
  unfolding region_rows entered
  refused-first refusal h = rw (first-decides (admit_rows s) last refusal h)

  module _ (admits : first_of (admit_rows s) ≡ none) where
    pub refused-region : bad_region (decode s) p ≡ true → Err NoRegion ≡ admitted_for s p
    unfolding region_rows entered first_of
    refused-region b = rw (second-decides (admit_rows s) last admits, b)

    pub marked-region : {chart : Chart} {total : ℕ} → chart ≡ read_for (counts_of s) p → total ≡ length (barriers (region_of p (decode s)))
        → bad_region (decode s) p ≡ false → Ok (record { chart = chart; barriers = total }) ≡ admitted_for s p
    unfolding region_rows entered first_of
    marked-region c q b = rw (second-decides (admit_rows s) last admits, b, c, q)

  pub named : bad_region (decode s) p ≡ false → Named (decode s).constructs p
  unfolding bad_region
  named h = names-fit (decode s).constructs p h

-- for the outermost region row 23 never applies
pub marked-outermost : (s : List ℕ) {r : Result Marked Refusal} → r ≡ admitted s → (p : ℕ) → p ≡ outside
    → r ≡ admitted_for s p
unfolding counts_of
marked-outermost s e p q = rw (q, outermost-rows s) e
