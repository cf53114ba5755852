-- Admit's counts are small.
-- Assumes nothing.
use Rattle.std.specs.Prelude.{Ok}
use mathlib.Core.Path.{◌≡◌, refl, ap, subst}
use mathlib.Core.List.{List}
use mathlib.Core.Bool.{Bool}
use mathlib.Core.Option.{Option, none, some}
use Prim.Native.Nat.{ℕ, zero, suc, ◌*◌, ◌≤◌}
use native.Mathlib.Omega.{arith}
use native.Mathlib.Nat.{suc-mul, le_trans}
use lib.ListN.{length}
use Rattle.lists.specs.Truth.{bad}
use Rattle.lists.specs.Range.{count_pairs, count_most}
use Rattle.lists.specs.Rows.{square}
use Rattle.chart.specs.Format.{decode}
use Rattle.chart.specs.Reading.{region}
use Rattle.chart.specs.Refusal.{first_of, chart_rows}
use Rattle.chart.specs.Checked.{counts_of, checked, checked_by}
use Rattle.chart.proofs.Records.{nodes-length}
use Rattle.chart.proofs.Rows.{both-pass}
use Rattle.theory_paths.specs.Admission.{admit_rows}
use Rattle.theory_paths.specs.Phases.{barriers, phase, phase_count}
use Rattle.theory_calls.specs.Admission.{region_counts, admission_by}
use Rattle.theory_calls.specs.declared.Counts.{Counts}
use Rattle.mark_tables.proofs.Accepted.{accepted}
use Rattle.mark_tables.proofs.Loading.{barriers-most}
use Rattle.bohrali.specs.Bounds.{SmallCounts}
use Rattle.chart.specs.declared.format.Refusal.{Refusal}

pairs-most : (n k : ℕ) (f : ℕ → ℕ → Bool) → count_pairs n k f ≤ n * k
unfolding count_pairs
pairs-most zero k f = omega arith
pairs-most (suc n) k f = omega (arith, pairs-most n k f, count_most k (f n), suc-mul n k)

pub small-counts : (s : List ℕ) (counts : Counts) → admission_by (first_of (admit_rows s)) (region_counts (region (decode s))) ≡ Ok counts → SmallCounts counts
unfolding admission_by region_counts admit_rows phase_count checked checked_by counts_of
small-counts s counts h = go (first_of (admit_rows s)) refl h
  where
    go : (o : Option Refusal) → first_of (admit_rows s) ≡ o → admission_by o (region_counts (region (decode s))) ≡ Ok counts → SmallCounts counts
    go none q e =
        let A = accepted s (counts_of s) (ap (λ (o : Option Refusal). checked_by o (counts_of s)) (both-pass (chart_rows s) _ q).0) in
        let few = barriers-most s (counts_of s) A in
        let same : region_counts (region (decode s)) ≡ counts = cc in
        subst SmallCounts same (record {
          nodes = omega (arith, nodes-length s (counts_of s) A.laid, A.laid.nodes-most);
          barriers = few;
          phases = le_trans (pairs-most (length (barriers (region (decode s)))) (length (barriers (region (decode s)))) (phase (region (decode s)))) (square few);
        })
    go (some refusal) q e = absurd (bad (cc))
