-- The decision is the team rules: what it allows is a step of the thread to the node, and every such step is what it makes of it.
-- Assumes nothing.
use Rattle.std.specs.Prelude.{◌≡◌, ◌⊎◌, ◌↔◌, Bool, true, false, ◌&&◌, ◌||◌, cond, ℕ, suc, ◌<◌, ltb, eqb}
use Rattle.std.proofs.Math.Path.{refl, ap}
use Rattle.std.proofs.Common.{sym, ◌∙◌, subst, inl, inr, ltb-true, lt-ltb}
use Rattle.lists.specs.Truth.{bad, clash, false-if}
use Rattle.lists.specs.Means.{both_of, either-of, equal_of}
use Rattle.chart.specs.Region.{Role, plain, barrier, opens, closes, Kind, loop, sections, section, Region}
use Rattle.chart.specs.InSection.{SectionOf}
use Rattle.chart.specs.WellFormed.{WellFormed}
use Rattle.theory_team.specs.State.{State, moved, left}
use Rattle.theory_team.specs.Step.{Untaken, AllTaken, MayEnter, MayPass, MayMove, ThreadStep, move, enter, pass, again, take, take_next}
use Rattle.theory_traces.specs.Tests.{is_kind, is_untaken, may_enter, may_pass, may_leave}
use Rattle.theory_traces.proofs.TestsLaws.{own, kind-of, untaken-of, enter-of, pass_of, leave-of}
use Rattle.theory_traces.specs.Decide.{taking, from_begin, from_end, from_node, decide, apply, allowed}
use Rattle.theory_traces.specs.declared.Effect.{Effect}
use Rattle.theory_traces.specs.declared.Effect.TheVariants.{None, Moves, Leaves, Takes, TakesNext}

pub cond_cases : {A : Type 0} (b : Bool) (x y : A) (P : A → Type 0) → (b ≡ true → P x) → (b ≡ false → P y) → P (cond b x y)
cond_cases true x y P f g = f refl
cond_cases false x y P f g = g refl

module _ (R : Region) (W : WellFormed R) (m : ℕ) (σ : State) (t v : ℕ) where
  abbrev x : ℕ
  x = σ.node t

  -- what is asked of a step from the begin of c, from its end, and of one that takes the section y in the k-th instance of c
  abbrev MayStart : ℕ → Type 0
  MayStart c = ((R.edge x v ≡ true) × MayEnter R m σ t c (R.kind c)) ⊎ ((v ≡ R.end c) × MayPass R m σ t c (R.kind c))

  abbrev MayGo : ℕ → Type 0
  MayGo c = ((R.edge x v ≡ true) × (R.kind c ≡ sections → AllTaken R m σ c (σ.encounters t c))) ⊎ ((R.kind c ≡ loop) × (R.edge (R.begin c) v ≡ true))

  abbrev MayTake : ℕ → ℕ → ℕ → Type 0
  MayTake c k y = (R.kind c ≡ sections) × (((R.kind y ≡ section) × (R.parent y ≡ c)) × Untaken m σ c k y)

  start_of : (c : ℕ) → (((R.edge x v && may_enter R m σ t c (R.kind c)) || (eqb v (R.end c) && may_pass R m σ t c (R.kind c))) ≡ true) ↔ MayStart c
  start_of c = either-of (both_of (own (R.edge x v)) (enter-of R W m σ t c (R.kind c))) (both_of (equal_of v (R.end c)) (pass_of R W m σ t c (R.kind c)))

  go-of : (c : ℕ) → (((R.edge x v && may_leave R m σ t c) || (is_kind (R.kind c) loop && R.edge (R.begin c) v)) ≡ true) ↔ MayGo c
  go-of c = either-of (both_of (own (R.edge x v)) (leave-of R W m σ t c)) (both_of (kind-of (R.kind c) loop) (own (R.edge (R.begin c) v)))

  take-of : (c k y : ℕ) → ((is_kind (R.kind c) sections && ((is_kind (R.kind y) section && eqb (R.parent y) c) && is_untaken m σ c k y)) ≡ true) ↔ MayTake c k y
  take-of c k y = both_of (kind-of (R.kind c) sections) (both_of (both_of (kind-of (R.kind y) section) (equal_of (R.parent y) c)) (untaken-of R W m σ c k y))

  -- an effect that is allowed only if it is a step
  abbrev Good : Effect → Type 0
  Good e = allowed e ≡ true → ThreadStep R m σ t v (apply σ t v e)

  none-good : {P : Type 0} → P → Good None
  unfolding allowed
  none-good p h = absurd (bad (cc))

  a-section : {c y : ℕ} → R.role v ≡ opens y → (R.kind y ≡ section) × (R.parent y ≡ c) → SectionOf R c y
  a-section w p = record { begun = ap R.role (sym (W.opens-begin w)) ∙ w; is-section = p.0; of-sections = p.1 }

  good-taking : (c k : ℕ) (f : ℕ → Effect) → ((y : ℕ) → R.role v ≡ opens y → MayTake c k y → Good (f y)) → (r : Role) → R.role v ≡ r → Good (taking R m σ c k f r)
  unfolding taking
  good-taking c k f g plain w = none-good w
  good-taking c k f g barrier w = none-good w
  good-taking c k f g (closes y) w = none-good w
  good-taking c k f g (opens y) w = cond_cases _ (f y) None Good (λ h. g y w ((take-of c k y).0 h)) none-good

  good-begin : (c : ℕ) → R.role x ≡ opens c → Good (from_begin R m σ t v c)
  unfolding from_begin apply
  good-begin c w = cond_cases _ (Leaves c) (taking R m σ c (suc (σ.encounters t c)) (Takes c) (R.role v)) Good
      (λ h a. leaves ((start_of c).0 h))
      (λ h. good-taking c (suc (σ.encounters t c)) (Takes c) (λ y b p a. take w p.0 (a-section b p.1.0) p.1.1 (W.opens-begin b)) (R.role v) refl)
    where
      leaves : MayStart c → ThreadStep R m σ t v (left σ t c v)
      leaves (inl h) = enter w h.1 h.0
      leaves (inr h) = pass w h.1 h.0

  good-end : (c : ℕ) → R.role x ≡ closes c → Good (from_end R m σ t v c)
  unfolding from_end apply
  good-end c w = cond_cases _ Moves (taking R m σ c (σ.encounters t c) (TakesNext c) (R.role v)) Good
      (λ h a. moves ((go-of c).0 h))
      (λ h. good-taking c (σ.encounters t c) (TakesNext c) (λ y b p a. take_next w p.0 (a-section b p.1.0) p.1.1 (W.opens-begin b)) (R.role v) refl)
    where
      moves : MayGo c → ThreadStep R m σ t v (moved σ t v)
      moves (inl h) = move (subst (λ (r : Role). MayMove R m σ t r) (sym w) h.1) h.0
      moves (inr h) = again w h.0 h.1

  good-node : (r : Role) → R.role x ≡ r → Good (from_node R m σ t v r)
  unfolding from_node apply
  good-node plain w = cond_cases (R.edge x v) Moves None Good (λ h a. move (subst (λ (r : Role). MayMove R m σ t r) (sym w) tt) h) none-good
  good-node barrier w = none-good w
  good-node (opens c) w = good-begin c w
  good-node (closes c) w = good-end c w

  abbrev Step : Effect → Type 0
  Step e = allowed e ≡ true → (t < m) × ThreadStep R m σ t v (apply σ t v e)

  no_step : {P : Type 0} → P → Step None
  unfolding allowed
  no_step p h = absurd (bad (cc))

  -- What the decision allows is a step of the team rules,
  pub decided-step : allowed (decide R m σ t v) ≡ true → (t < m) × ThreadStep R m σ t v (apply σ t v (decide R m σ t v))
  unfolding decide
  decided-step = cond_cases (ltb t m) (from_node R m σ t v (R.role x)) None Step (λ h a. (ltb-true t m h, good-node (R.role x) refl a)) no_step

  -- and every step of one thread is what the decision makes of it.
  pub record Made (τ : State) : Type 0 where
    pub allows : allowed (decide R m σ t v) ≡ true
    pub makes : τ ≡ apply σ t v (decide R m σ t v)

  made : (e : Effect) → decide R m σ t v ≡ e → allowed e ≡ true → {τ : State} → τ ≡ apply σ t v e → Made τ
  made e q a r = record { allows = ap allowed q ∙ a; makes = r ∙ sym (ap (apply σ t v) q) }

  stands : {r : Role} → t < m → R.role x ≡ r → decide R m σ t v ≡ from_node R m σ t v r
  unfolding decide
  stands {r} l w = rw (lt-ltb t m l, w)

  -- a section's begin is taken: nothing else leads there from the begin or the end of its sections construct
  only-take : {c y : ℕ} → R.role x ≡ opens c → R.kind c ≡ sections → R.role v ≡ opens y → MayStart c → ⊥
  only-take {c} w k b (inl h) = subst (λ (j : Kind). MayEnter R m σ t c j) k h.1
  only-take w k b (inr h) = bad (cc (W.opens-ended w, ap R.role h.0))

  only_next : {c y : ℕ} → R.role x ≡ closes c → R.kind c ≡ sections → R.role v ≡ opens y → SectionOf R c y → MayGo c → ⊥
  only_next {c} w k b S (inl h) = out (W.enter h.0 (subst (λ (d : ℕ). R.inside v d ≡ true) S.of-sections (W.section-begin b S.is-section)))
    where
      out : (R.inside x c ≡ true) ⊎ (R.role x ≡ opens c) → ⊥
      out (inl i) = clash i (ap (λ (z : ℕ). R.inside z c) (W.closes-end w) ∙ W.same-scope (W.closes-begun w) c ∙ W.begin-outside (W.closes-begun w))
      out (inr o) = bad (cc)
  only_next w k b S (inr h) = bad (cc (h.0, k))

  taken : (c k y : ℕ) (f : ℕ → Effect) → R.role v ≡ opens y → MayTake c k y → taking R m σ c k f (R.role v) ≡ f y
  unfolding taking
  taken c k y f w p = ap (taking R m σ c k f) w ∙ (rw ((take-of c k y).1 p))

  yes-first : {b : Bool} (e f : Effect) → b ≡ true → cond b e f ≡ e
  yes-first e f h = rw h

  no-first : {b : Bool} (e f : Effect) → (b ≡ true → ⊥) → cond b e f ≡ f
  no-first e f h = rw (false-if h)

  pub step-decided : {τ : State} → t < m → ThreadStep R m σ t v τ → Made τ
  unfolding apply allowed from_node from_begin from_end
  step-decided l (move h e) = go (R.role x) refl h
    where
      go : (r : Role) → R.role x ≡ r → MayMove R m σ t r → Made (moved σ t v)
      go plain w z = made Moves (stands l w ∙ yes-first Moves None e) refl refl
      go barrier w z = absurd z
      go (opens c) w z = absurd z
      go (closes c) w z = made Moves (stands l w ∙ yes-first Moves _ ((go-of c).1 (inl (e, z)))) refl refl
  step-decided l (enter {c} w p e) = made (Leaves c) (stands l w ∙ yes-first (Leaves c) _ ((start_of c).1 (inl (e, p)))) refl refl
  step-decided l (pass {c} w p e) = made (Leaves c) (stands l w ∙ yes-first (Leaves c) _ ((start_of c).1 (inr (e, p)))) refl refl
  step-decided l (again {c} w k e) = made Moves (stands l w ∙ yes-first Moves _ ((go-of c).1 (inr (k, e)))) refl refl
  step-decided l (take {c} {x = y} w k S u e) =
      let b : R.role v ≡ opens y = ap R.role e ∙ S.begun in
      made (Takes c y) (stands l w ∙ no-first (Leaves c) _ (λ h. only-take w k b ((start_of c).0 h)) ∙ taken c (suc (σ.encounters t c)) y (Takes c) b (k, ((S.is-section, S.of-sections), u))) refl refl
  step-decided l (take_next {c} {x = y} w k S u e) =
      let b : R.role v ≡ opens y = ap R.role e ∙ S.begun in
      made (TakesNext c y) (stands l w ∙ no-first Moves _ (λ h. only_next w k b S ((go-of c).0 h)) ∙ taken c (σ.encounters t c) y (TakesNext c) b (k, ((S.is-section, S.of-sections), u))) refl refl

  -- Forbidden exactly where there is no step.
  pub none-forbidden : allowed (decide R m σ t v) ≡ false → {τ : State} → t < m → ThreadStep R m σ t v τ → ⊥
  none-forbidden h l s = clash (step-decided l s).allows h
