-- What is computed of a critical is what it is by the answers and in runs: its lock is needed exactly where some finished run, with no locks, has two
-- threads together, one inside it and the other inside a critical of its name; and otherwise it can be dropped. The same of runs that need not finish.
-- Assumes nothing.
use Rattle.std.specs.Prelude.{◌≡◌, refl, ◌↔◌, Bool, true, false, List, ℕ, ◌<◌}
use Rattle.std.proofs.Common.{sym, subst, eqb-true, eq-eqb}
use Rattle.std.proofs.Math.Bool.{not}
use Rattle.std.proofs.lemmas.Bool.{not-true, not-false}
use Rattle.lists.specs.Truth.{bad, clash, is_true, true-is, false-if}
use Rattle.lists.specs.Means.{both_of, some_of, equal_of}
use Rattle.chart.specs.Format.{decode}
use Rattle.chart.specs.Region.{Role, plain, barrier, opens, closes, Kind-discrete, critical, Region}
use Rattle.chart.specs.Reading.{region_of}
use Rattle.chart.specs.WellFormed.{WellFormed}
use Rattle.chart.proofs.Kept.{inside-kept}
use Rattle.chart.proofs.Accepted.{fits}
use Rattle.theory_paths.specs.Connected.{Connected}
use Rattle.theory_paths.specs.Admission.{AdmittedIn}
use Rattle.theory_paths.specs.AdmissionLaws.{admitted-rows, admitted-well-formed}
use Rattle.theory_team.specs.Run.{ConcurrentIn}
use Rattle.theory_team.specs.Meets.{Meets, concurrent-meets}
use Rattle.theory_team.specs.Locks.{InCritical}
use Rattle.theory_team.proofs.SomeLocksLaws.{none-locked}
use Rattle.theory_answers.specs.Answer.{answer_for}
use Rattle.theory_answers.proofs.AnswerLaws.{in-of}
use Rattle.theory_answers.proofs.SizeLaws.{answer-for}
use Rattle.theory_answers.specs.Unexcluded.{In}
use Rattle.theory_answers.specs.declared.Size.{Size}
use Rattle.theory_answers.specs.declared.Size.TheVariants.{Any, Of}
use Rattle.theory_exact.specs.Constructs.{inside-open}
use Rattle.theory_exact.specs.Answered.{ConcurrentFor}
use Rattle.theory_exact.proofs.AnsweredFor.{exact-for}
use Rattle.theory_exact.specs.Barred.{is_barred_for}
use Rattle.theory_exact.proofs.BarredLaws.{barred-for-of}
use Rattle.theory_exact.specs.Answered.{MeetsFor}
use Rattle.theory_exact.proofs.MetLaws.{meets-exact}
use Rattle.theory_exact.specs.Droppable.{Droppable, AlwaysDroppable, Fits, Enough, AlwaysEnough}
use Rattle.theory_calls.specs.Locks.{opening, is_critical, in_named, some_pair, needed, ever_needed}
use Rattle.theory_calls.specs.Needed.{CriticalOf, Pair, Needed, EverNeeded}

-- What a finished run needs, some run needs.
pub needed-ever : {R : Region} {c : ℕ} (size : Size) → Needed R size c → EverNeeded R size c
needed-ever {R} size N = record { x = N.x; y = N.y; in_c = N.in_c; in-named = N.in-named; has = go size N.x N.y N.has }
  where
    go : (size : Size) (x y : ℕ) → ConcurrentFor R size x y → MeetsFor R size x y
    go Any x y (m, M) = (m, concurrent-meets M)
    go (Of m) x y M = concurrent-meets M

opening_of : (r : Role) (c : ℕ) → (opening r c ≡ true) ↔ (r ≡ opens c)
opening_of plain c = ((λ h. absurd (bad (cc))), λ q. absurd (bad (cc)))
opening_of barrier c = ((λ h. absurd (bad (cc))), λ q. absurd (bad (cc)))
opening_of (opens d) c = ((λ h. let q = eqb-true d c h in (cc)), λ q. eq-eqb d c (cc))
opening_of (closes d) c = ((λ h. absurd (bad (cc))), λ q. absurd (bad (cc)))

pub critical-of : (R : Region) (c : ℕ) → (is_critical R c ≡ true) ↔ CriticalOf R c
unfolding is_critical
critical-of R c = both_of (is_true (Kind-discrete (R.kind c) critical), true-is (Kind-discrete (R.kind c) critical)) (opening_of (R.role (R.begin c)) c)

-- What is inside a construct is a node of the region.
pub inside-node : (s : List ℕ) (p : ℕ) → AdmittedIn s p → (x c : ℕ) → (region_of p (decode s)).inside x c ≡ true → x < (region_of p (decode s)).nodes
inside-node s p a x c i = (admitted-well-formed s p a).kept-below (inside-kept (decode s) (fits s (admitted-rows s p a)).1 p x c i)

module _ {R : Region} (W : WellFormed R) (C : Connected R) (below : (x c : ℕ) → R.inside x c ≡ true → x < R.nodes) where
  named-of : (y name : ℕ) → (in_named R y name ≡ true) ↔ InCritical R y name
  unfolding in_named
  named-of y name = (
    (λ h. let (d, ((k, i), e)) = found.0 h in record { construct = d; is-critical = k; of-name = e; within = i }),
    λ h. found.1 (h.construct, ((h.is-critical, h.within), h.of-name)),
  )
    where
      found : (in_named R y name ≡ true) ↔ ((d : ℕ) × (In R critical y d × (R.name d ≡ name)))
      found = some_of R.constructs _ (λ d. In R critical y d × (R.name d ≡ name)) (λ d. both_of (in-of R critical y d) (equal_of (R.name d) name))
          (λ d h. W.inside-below h.0.1)

  pair_of : (test : ℕ → ℕ → Bool) (P : ℕ → ℕ → Type 0) (c : ℕ) → ((x y : ℕ) → R.inside x c ≡ true → InCritical R y (R.name c) → (test x y ≡ true) ↔ P x y)
      → (some_pair R test c ≡ true) ↔ Pair R P c
  unfolding some_pair
  pair_of test P c means = (
    (λ h. let (x, (y, ((i, n), t))) = found.0 h in record { x = x; y = y; in_c = i; in-named = n; has = (means x y i n).0 t }),
    λ N. found.1 (N.x, (N.y, ((N.in_c, N.in-named), (means N.x N.y N.in_c N.in-named).1 N.has))),
  )
    where
      found : (some_pair R test c ≡ true) ↔ ((x : ℕ) × ((y : ℕ) × (((R.inside x c ≡ true) × InCritical R y (R.name c)) × (test x y ≡ true))))
      found = some_of R.nodes _ (λ x. (y : ℕ) × (((R.inside x c ≡ true) × InCritical R y (R.name c)) × (test x y ≡ true)))
          (λ x. some_of R.nodes _ (λ y. ((R.inside x c ≡ true) × InCritical R y (R.name c)) × (test x y ≡ true))
          (λ y. both_of (both_of ((λ h. h), λ h. h) (named-of y (R.name c))) ((λ h. h), λ h. h))
          (λ y h. below y h.0.1.construct h.0.1.within))
          (λ x h. below x c h.1.0.0)

  module _ (size : Size) (c : ℕ) where
    -- The lock of c is needed, by computation, exactly where a finished run needs it.
    pub needed_of : (needed R size c ≡ true) ↔ Needed R size c
    unfolding needed
    needed_of = pair_of _ (ConcurrentFor R size) c (λ x y i n.
        let E = exact-for W C (inside-open W i) (inside-open W n.within) size in
        let Q = equal_of (answer_for R size x y) 0 in
        ((λ h. E.0 (Q.0 h)), λ M. Q.1 (E.1 M)))

    pub ever-needed-of : (ever_needed R size c ≡ true) ↔ EverNeeded R size c
    unfolding ever_needed
    ever-needed-of = pair_of _ (MeetsFor R size) c (λ x y i n.
        let E = meets-exact W C (inside-open W i) (inside-open W n.within) size in
        ((λ h. E.0 (not-true _ h)), λ M. rw (E.1 M)))

    -- Otherwise every pair is answered never, and the lock can be dropped.
    pub unneeded-droppable : R.kind c ≡ critical → needed R size c ≡ false → Droppable R size c
    unfolding needed
    unneeded-droppable k h = record {
      is-critical = k;
      pairs = λ x y i n. (answer_for R size x y, (answer-for W size x y, λ e. clash (answered.1 (record { x = x; y = y; in_c = i; in-named = n; has = e })) h));
    }
      where
        answered : (needed R size c ≡ true) ↔ Pair R (λ x y. answer_for R size x y ≡ 0) c
        answered = pair_of _ (λ x y. answer_for R size x y ≡ 0) c (λ x y i n. equal_of (answer_for R size x y) 0)

    pub ever-unneeded-droppable : R.kind c ≡ critical → ever_needed R size c ≡ false → AlwaysDroppable R size c
    unfolding ever_needed
    ever-unneeded-droppable k h = record {
      is-critical = k;
      pairs = λ x y i n. (barred-for-of W x y size).0 (not-false _ (false-if (λ t. clash (tested.1 (record { x = x; y = y; in_c = i; in-named = n; has = t })) h)));
    }
      where
        tested : (ever_needed R size c ≡ true) ↔ Pair R (λ x y. not (is_barred_for R size x y) ≡ true) c
        tested = pair_of _ (λ x y. not (is_barred_for R size x y) ≡ true) c (λ x y i n. ((λ h. h), λ h. h))

-- Where a lock is needed, no locks at all are not enough.
module _ (R : Region) (c : ℕ) (k : R.kind c ≡ critical) where
  its_own : {x : ℕ} → R.inside x c ≡ true → InCritical R x (R.name c)
  its_own i = record { construct = c; is-critical = k; of-name = refl; within = i }

  pub needed-not-enough : (size : Size) → Needed R size c → Enough R size (λ d. false) → ⊥
  needed-not-enough size N E = go size N.has E
    where
      one : {m : ℕ} (M : ConcurrentIn R m N.x N.y) (size : Size) → Fits size m → Enough R size (λ d. false) → ⊥
      one {m} M size f E = E m f M.final M.run (none-locked M.run) M.finished M.state M.passed M.t M.u (R.name c) M.t-in M.u-in M.differ
          (subst (λ (z : ℕ). InCritical R z (R.name c)) (sym M.at_a) (its_own N.in_c))
          (subst (λ (z : ℕ). InCritical R z (R.name c)) (sym M.at_b) N.in-named)

      go : (size : Size) → ConcurrentFor R size N.x N.y → Enough R size (λ d. false) → ⊥
      go Any (m, M) E = one M Any tt E
      go (Of m) M E = one M (Of m) refl E

  pub ever-needed-not-enough : (size : Size) → EverNeeded R size c → AlwaysEnough R size (λ d. false) → ⊥
  ever-needed-not-enough size N E = go size N.has E
    where
      one : {m : ℕ} (M : Meets R m N.x N.y) (size : Size) → Fits size m → AlwaysEnough R size (λ d. false) → ⊥
      one {m} M size f E = E m f M.final M.run (none-locked M.run) M.state M.passed M.t M.u (R.name c) M.t-in M.u-in M.differ
          (subst (λ (z : ℕ). InCritical R z (R.name c)) (sym M.at_a) (its_own N.in_c))
          (subst (λ (z : ℕ). InCritical R z (R.name c)) (sym M.at_b) N.in-named)

      go : (size : Size) → MeetsFor R size N.x N.y → AlwaysEnough R size (λ d. false) → ⊥
      go Any (m, M) E = one M Any tt E
      go (Of m) M E = one M (Of m) refl E
