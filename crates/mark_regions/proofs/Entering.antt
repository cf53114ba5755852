-- The entrance: what the marking says about row 10, and an answer read backwards.
-- Assumes nothing.
use Rattle.std.specs.Prelude.{Result, Ok, Err}
use mathlib.Core.Path.{◌≡◌, refl, ap, sym, subst, ◌∙◌}
use mathlib.Core.Bool.{true, false}
use mathlib.Core.List.{List}
use mathlib.Core.Option.{Option, none, some}
use Prim.Native.Nat.{ℕ, ◌≤◌, ◌<◌}
use native.Mathlib.Omega.{arith}
use lib.ListN.{length}
use Rattle.lists.specs.Truth.{bad}
use Rattle.chart.specs.Format.{outside, decode}
use Rattle.chart.specs.Region.{Region}
use Rattle.chart.specs.Reading.{region, region_of}
use Rattle.chart.specs.Refusal.{first_of}
use Rattle.chart.specs.Checked.{counts_of, checked, reading}
use Rattle.chart.specs.declared.format.Chart.{Chart}
use Rattle.chart.specs.declared.format.Refusal.{Refusal}
use Rattle.chart.proofs.RegionFacts.{start-outer, finish-outer}
use Rattle.check_chart.proofs.Outcome.{passed_none}
use Rattle.theory_paths.specs.Admission.{bad_paths, admit_rows}
use Rattle.theory_paths.specs.Phases.{barriers}
use Rattle.mark_tables.specs.Tables.{Accepted, Barriers}
use Rattle.mark_tables.proofs.Accepted.{accepted, well-formed}
use Rattle.mark_tables.proofs.Loading.{barriers-most}
use Rattle.mark_tables.proofs.Rows.{refused-paths, admits}
use Rattle.mark.specs.Joined.{lost_in}
use Rattle.mark.proofs.JoiningLaws.{some-barrier, both_ways}
use Rattle.mark_regions.specs.Entered.{entered, admitted}
use Rattle.mark_regions.specs.declared.outermost.Marked.{Marked}
use Rattle.chart.specs.declared.format.Refusal.TheVariants.{BadPaths}

pub entered-refused : (o : Option Refusal) (counts : Chart) (barriers : ℕ) {refusal : Refusal} → entered o counts barriers ≡ Err refusal → o ≡ some refusal
unfolding entered
entered-refused none counts barriers h = absurd (bad (cc))
entered-refused (some given) counts barriers {refusal} h = ap some same
  where
    same : given ≡ refusal
    same = cc

pub entered-marked : (o : Option Refusal) (counts : Chart) (barriers : ℕ) {m : Marked} → entered o counts barriers ≡ Ok m → o ≡ none
unfolding entered
entered-marked none counts barriers h = refl
entered-marked (some refusal) counts barriers h = absurd (bad (cc))

pub entered-counts : (o : Option Refusal) (counts : Chart) (barriers : ℕ) {m : Marked} → entered o counts barriers ≡ Ok m → counts ≡ m.chart
unfolding entered
entered-counts none counts barriers {m} h = ap (λ (k : Marked). k.chart) same
  where
    same : record { chart = counts; barriers = barriers } ≡ m
    same = cc
entered-counts (some refusal) counts barriers h = absurd (bad (cc))

-- marked as two answers that are one
pub marked-same : {m n : Marked} → ◌≡◌ {A = Result Marked Refusal} (Ok m) (Ok n) → (P : Marked → Type 0) → P m → P n
marked-same {m} {n} e P p = let same : m ≡ n = cc in subst P same p

-- the barriers of an accepted chart

module _ {s : List ℕ} {chart : Chart} (A : Accepted s chart) {nodes : List ℕ} {total : ℕ} (B : Barriers (reading s chart) nodes total) where
  pub few : total ≤ 64
  few = omega (arith, barriers-most s chart A, B.count)

  pub not_none : 0 < total
  not_none = omega (arith, some-barrier (reading s chart) (well-formed s chart A), B.count)

-- row 10, of a chart that is read for its outermost region

module _ (s : List ℕ) (chart : Chart) (h : checked s ≡ Ok chart) where
  abbrev R : Region
  R = reading s chart

  A : Accepted s chart
  A = accepted s chart h

  same : counts_of s ≡ chart
  unfolding checked
  same = (passed_none _ (counts_of s) chart h).1

  pub read_whole : chart.region ≡ outside
  unfolding counts_of
  read_whole = sym (ap (λ (k : Chart). k.region) same)

  outermost : R ≡ region (decode s)
  outermost = ap (λ (p : ℕ). region_of p (decode s)) read_whole

  bad-paths : bad_paths (region (decode s)) ≡ lost_in R
  bad-paths =
      sym (ap bad_paths outermost)
      ∙ both_ways R (well-formed s chart A) (start-outer (decode s) chart.region read_whole) (finish-outer (decode s) chart.region read_whole)

  pub cut_off : lost_in (reading s chart) ≡ true → first_of (admit_rows s) ≡ some BadPaths
  cut_off f = refused-paths s chart h (bad-paths ∙ f)

  pub connects : lost_in (reading s chart) ≡ false → first_of (admit_rows s) ≡ none
  connects f = admits s chart h (bad-paths ∙ f)

  -- the answer of the entrance

  pub refuses : (refusal : Refusal) → first_of (admit_rows s) ≡ some refusal
      → Err refusal ≡ admitted s
  unfolding entered
  refuses number e = rw e

  pub marks : (total : ℕ) → total ≡ length (barriers (reading s chart)) → first_of (admit_rows s) ≡ none
      → Ok (record { chart = chart; barriers = total }) ≡ admitted s
  unfolding entered
  marks total q e =
      let n : total ≡ length (barriers (region (decode s))) = q ∙ ap (λ (r : Region). length (barriers r)) outermost in
      rw (e, ← n, same)
