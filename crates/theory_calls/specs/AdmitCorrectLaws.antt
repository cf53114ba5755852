-- Admit is correct: demand 2 holds of the number that its definition gives, for all bytes, and of no other.
-- Assumes nothing.
use Rattle.std.specs.Prelude.{◌≡◌, refl, ◌↔◌, Bool, ◌&&◌, List, ℕ, ℤ, pos, length}
use Rattle.std.proofs.Common.{ap, ◌∙◌}
use Rattle.std.proofs.Math.Path.{sym}
use Rattle.std.proofs.Math.Bool.{true, not}
use Rattle.std.proofs.Math.Option.{Option, none, some}
use Rattle.lists.specs.Truth.{same_truth}
use Rattle.lists.specs.Means.{both_of, some_of}
use Rattle.lists.specs.Range.{any, count_pairs}
use Rattle.lists.specs.Recount.{pairs-same, pairs-select}
use Rattle.lists.specs.Select.{select-length}
use Rattle.chart.specs.Format.{outside, decode}
use Rattle.chart.specs.Region.{Region}
use Rattle.chart.specs.Reading.{region}
use Rattle.chart.specs.Refusal.{first_of}
use Rattle.chart.specs.WellFormed.{WellFormed}
use Rattle.theory_paths.specs.Decide.{no_barrier}
use Rattle.theory_paths.specs.Admission.{admit_rows}
use Rattle.theory_paths.specs.AdmissionLaws.{admitted-well-formed, outermost-rows}
use Rattle.theory_paths.specs.Phases.{forward, backward, is_boundary, barriers, marked, phase, phase_count}
use Rattle.theory_paths.specs.PhasesLaws.{ends-below, barrier-of, boundary-means}
use Rattle.theory_calls.specs.Admission.{region_counts, admission_by, admitted, number_of}
use Rattle.theory_calls.specs.PhasesCorrect.{BarriersBelow, PhaseOf, PairCount, CountsIn, AdmitCorrect}
use Rattle.theory_calls.specs.PhasesCorrectLaws.{below-count, count-below}
use Rattle.chart.specs.declared.format.Refusal.{Refusal}

-- some node has the start s and the end e, as a test
unfoldable is_phase : Region → ℕ → ℕ → Bool
is_phase R s e = any R.nodes (λ x. is_boundary forward R x s && is_boundary backward R x e)

module _ (R : Region) (W : WellFormed R) where
  phase-of : (s e : ℕ) → (is_phase R s e ≡ true) ↔ PhaseOf R s e
  unfolding is_phase
  phase-of s e = some_of R.nodes _ _ (λ x. both_of (boundary-means R W forward x s) (boundary-means R W backward x e)) (λ x h. ends-below R W h.0.path)

  -- barriers by number and by node are counted alike
  count-phases : phase_count R ≡ count_pairs R.nodes R.nodes (is_phase R)
  unfolding phase_count barriers phase marked is_phase
  count-phases = sym (pairs-select R.nodes (λ x. not (no_barrier (R.role x))) (is_phase R) ends)
    where
      ends : (s e : ℕ) → is_phase R s e ≡ true → (not (no_barrier (R.role s)) ≡ true) × (not (no_barrier (R.role e)) ≡ true)
      ends s e h = let (x, (p, q)) = (phase-of s e).0 h in ((barrier-of (R.role s)).1 p.is-barrier, (barrier-of (R.role e)).1 q.is-barrier)

  count-barriers : BarriersBelow R R.nodes (length (barriers R))
  unfolding barriers
  count-barriers = rw (select-length R.nodes (λ x. not (no_barrier (R.role x)))) (below-count R R.nodes)

-- both counts leave one number
one_below : {R : Region} {x b c : ℕ} → BarriersBelow R x b → BarriersBelow R x c → b ≡ c
one_below v w = count-below v ∙ sym (count-below w)

one-count : {P : ℕ → ℕ → Type 0} {n b c : ℕ} → PairCount P n b → PairCount P n c → b ≡ c
one-count {n = n} v w =
    v.counted ∙ pairs-same n n v.test w.test (λ s e l m. same_truth _ _ (λ h. (w.means s e).1 ((v.means s e).0 h)) (λ h. (v.means s e).1 ((w.means s e).0 h))) ∙ sym w.counted

one_number : {R : Region} {n m : ℤ} → CountsIn R n → CountsIn R m → n ≡ m
one_number {R} v w =
    v.packed ∙ ap pos (rw (one_below v.is-barriers w.is-barriers, one-count v.is-phases w.is-phases)) ∙ sym w.packed

-- Demand 2 for Admit.
pub admit-correct : (s : List ℕ) → AdmitCorrect s (number_of (admitted s))
unfolding admitted admission_by region_counts number_of
admit-correct s = record {
  refuses = λ row h. rw h;
  counts = λ h. let R = region (decode s) in let W = admitted-well-formed s outside (outermost-rows s ∙ h) in rw h (record {
    barriers = length (barriers R);
    phases = phase_count R;
    is-barriers = count-barriers R W;
    is-phases = record { test = is_phase R; means = phase-of R W; counted = count-phases R W };
    packed = refl;
  });
}

-- No other number is correct.
pub admit-only : (s : List ℕ) (number : ℤ) → AdmitCorrect s number → number ≡ number_of (admitted s)
admit-only s number C = go (first_of (admit_rows s)) refl
  where
    A : AdmitCorrect s (number_of (admitted s))
    A = admit-correct s

    go : (o : Option Refusal) → first_of (admit_rows s) ≡ o → number ≡ number_of (admitted s)
    go none h = one_number (C.counts h) (A.counts h)
    go (some row) h = C.refuses row h ∙ sym (A.refuses row h)
