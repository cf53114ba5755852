-- Never in any run, finished or not: a pair of nodes that a rule other than "no common end" excludes is met in no state of any run of any team. What
-- a meeting says of the rules is shown here for every run; proofs/Sound.antt adds what a finished run says of ends.
-- Assumes nothing.
use Rattle.std.specs.Prelude.{◌≡◌, ◌⊎◌, ◌≢◌, true, List, ℕ, ◌≤◌, ◌<◌}
use Rattle.std.proofs.Common.{ap, sym, ◌∙◌, subst, inl, inr, arith}
use Rattle.std.proofs.Math.Decide.{dec_le}
use Rattle.chart.specs.Format.{decode}
use Rattle.chart.specs.Region.{single, master, Outermost, Region}
use Rattle.chart.specs.Reading.{region_of}
use Rattle.chart.specs.InOrdered.{InOrdered}
use Rattle.chart.specs.InSection.{InSection}
use Rattle.chart.specs.WellFormed.{WellFormed}
use Rattle.chart.proofs.Sections.{sections-of, inside-sections}
use Rattle.theory_paths.specs.Path.{Open, BarrierFree}
use Rattle.theory_paths.specs.Connected.{Connected}
use Rattle.theory_paths.specs.Admission.{AdmittedIn}
use Rattle.theory_paths.specs.AdmissionLaws.{admitted-well-formed, admitted-connected}
use Rattle.theory_paths.specs.Phases.{forward, Boundary}
use Rattle.theory_team.specs.Meets.{Meets}
use Rattle.theory_answers.specs.Unexcluded.{Returns, Common, HasThreads}
use Rattle.theory_answers.specs.declared.Size.{Size}
use Rattle.theory_answers.specs.declared.Size.TheVariants.{Any, Of}
use Rattle.theory_exact.specs.Answered.{MeetsFor}
use Rattle.theory_exact.specs.Barred.{BarredFor, Unbarred}
use Rattle.theory_exact.proofs.BarredLaws.{unbarred-not, fitting-not}
use Rattle.theory_exact.specs.Runs.{before}
use Rattle.theory_exact.specs.Nesting.{inside-do, do-outermost, single-outermost, sections-outermost}
use Rattle.theory_exact.specs.Invariant.{MasterOf, Since, Invariant, invariant, invariant-first}

module _ {R : Region} (W : WellFormed R) (C : Connected R) {m a b : ℕ} (M : Meets R m a b) where
  met-invariant : Invariant R m M.state
  met-invariant = invariant W C (before M.passed) (invariant-first W C)

  on-a : (Z : ℕ → Type 0) → Z a → Z (M.state.node M.t)
  on-a Z z = subst Z (sym M.at_a) z

  on-b : (Z : ℕ → Type 0) → Z b → Z (M.state.node M.u)
  on-b Z z = subst Z (sym M.at_b) z

  -- a team has the threads of all masters around the nodes where it meets
  master-a : MasterOf R M.t a
  master-a = subst (MasterOf R M.t) M.at_a (met-invariant.masters M.t M.t-in)

  master-b : MasterOf R M.u b
  master-b = subst (MasterOf R M.u) M.at_b (met-invariant.masters M.u M.u-in)

  pub met-has-a : HasThreads R m a
  met-has-a c k i = subst (λ (n : ℕ). n < m) (master-a c k i) M.t-in

  pub met-has-b : HasThreads R m b
  met-has-b c k i = subst (λ (n : ℕ). n < m) (master-b c k i) M.u-in

  pub met-two : 2 ≤ m
  met-two = omega arith

  -- of two different counts that are not 0 one is 2 or more
  returns : {c : ℕ} → Outermost (R.kind c) → R.inside a c ≡ true → R.inside b c ≡ true
      → M.state.encounters M.t c ≢ M.state.encounters M.u c → Returns R c
  returns {c} o i j n = elim (dec_le 2 (M.state.encounters M.t c)) [
    | yes h ↦ met-invariant.returns c (W.inside-begun i) o M.t M.t-in h
    | no h ↦ met-invariant.returns c (W.inside-begun i) o M.u M.u-in (omega (
      arith,
      met-invariant.entered c M.t M.t-in (inl (on-a (λ x. R.inside x c ≡ true) i)),
      met-invariant.entered c M.u M.u-in (inl (on-b (λ x. R.inside x c ≡ true) j)),
    ))
  ]

  -- What a meeting says, rule by rule. The barrier that all came from is a common start.
  met_start : Open R a → Open R b → Common (Boundary forward R) a b
  met_start oa ob = go met-invariant.since
    where
      go : ((t : ℕ) → t < m → M.state.node t ≡ R.start) ⊎ Since R m M.state → Common (Boundary forward R) a b
      go (inl h) = absurd (oa (ap R.role (sym M.at_a ∙ h M.t M.t-in) ∙ W.start-barrier))
      go (inr S) = (
        S.0,
        (
          record { no-barrier = oa; is-barrier = S.1; path = subst (BarrierFree R S.0) M.at_a (S.2 M.t M.t-in) },
          record { no-barrier = ob; is-barrier = S.1; path = subst (BarrierFree R S.0) M.at_b (S.2 M.u M.u-in) },
        ),
      )

  met-masters : (c d : ℕ) → R.kind c ≡ master → R.kind d ≡ master → R.inside a c ≡ true → R.inside b d ≡ true → R.thread c ≢ R.thread d
  met-masters c d p q i j z = M.differ (master-a c p i ∙ z ∙ sym (master-b d q j))

  met-singles : (c : ℕ) → R.kind c ≡ single → R.inside a c ≡ true → R.inside b c ≡ true → Returns R c
  met-singles c q i j = returns (single-outermost q) i j
      (met-invariant.singles c q M.t M.u M.t-in M.u-in M.differ (on-a (λ x. R.inside x c ≡ true) i) (on-b (λ x. R.inside x c ≡ true) j))

  met-ordereds : (d : ℕ) → InOrdered R a d → InOrdered R b d → Returns R d
  met-ordereds d p q = returns (do-outermost W p) (inside-do W p) (inside-do W q)
      (met-invariant.ordereds d M.t M.u M.t-in M.u-in M.differ (on-a (λ x. InOrdered R x d) p) (on-b (λ x. InOrdered R x d) q))

  met-sections : (s : ℕ) → InSection R a s → InSection R b s → Returns R (R.parent s)
  met-sections s p q = returns (sections-outermost (sections-of W p)) (inside-sections W p) (inside-sections W q)
      (met-invariant.sections s M.t M.u M.t-in M.u-in M.differ (on-a (λ x. InSection R x s) p) (on-b (λ x. InSection R x s) q))

  pub met-unbarred : Open R a → Open R b → Unbarred R a b
  met-unbarred oa ob = record { start = met_start oa ob; masters = met-masters; singles = met-singles; ordereds = met-ordereds; sections = met-sections }

module _ {R : Region} (W : WellFormed R) (C : Connected R) {a b : ℕ} (oa : Open R a) (ob : Open R b) where
  -- No run, finished or not, of a team of the size, or of any team, has a state in which two different threads stand at a and b.
  pub unmet : (size : Size) → BarredFor R size a b → MeetsFor R size a b → ⊥
  unmet Any h (m, M) = unbarred-not (met-unbarred W C M oa ob) h
  unmet (Of m) h M = fitting-not (met-two W C M) (met-has-a W C M) (met-has-b W C M) (met-unbarred W C M oa ob) h

-- The same of each region of an admitted chart's bytes.
pub chart-unmet : (s : List ℕ) (p : ℕ) → AdmittedIn s p → (size : Size) (a b : ℕ) → Open (region_of p (decode s)) a → Open (region_of p (decode s)) b
    → BarredFor (region_of p (decode s)) size a b → MeetsFor (region_of p (decode s)) size a b → ⊥
chart-unmet s p admitted size a b oa ob = unmet (admitted-well-formed s p admitted) (admitted-connected s p admitted) oa ob size
