-- What the team rules give for sections: a section is taken by one thread in each instance of its sections, a thread leaves their end for a
-- section that is left, or once all are taken, and the state after a step is determined.
-- Assumes nothing.
use Rattle.std.specs.Prelude.{◌≡◌, refl, ◌⊎◌, true, false, ◌&&◌, cond, ℕ, suc, ◌<◌, eqb}
use Rattle.std.proofs.Common.{ap, sym, ◌∙◌, subst, inl, inr, eqb-true, eq-eqb}
use Rattle.lists.specs.Truth.{bad, truth, is, is_true, true-is, and_both}
use Rattle.chart.specs.Region.{Role, plain, barrier, opens, closes, Kind-discrete, sections, section, Region}
use Rattle.chart.specs.InSection.{SectionOf}
use Rattle.chart.specs.WellFormed.{WellFormed}
use Rattle.chart.proofs.Sections.{assigned-from}
use Rattle.theory_team.specs.State.{State, moved, left, took}
use Rattle.theory_team.specs.Step.{Untaken, AllTaken, MayEnter, MayMove, ThreadStep, move, enter, pass, again, take, take_next}
use Rattle.theory_team.proofs.Laws.{one-construct, move-no-begin, took-at, Counted, counted}

-- Node v is the begin of a section of c that no thread has taken in the k-th instance of c.
abbrev pub Takes : Region → ℕ → State → ℕ → ℕ → ℕ → Type 0
Takes R m σ v c k = (x : ℕ) × (SectionOf R c x × ((v ≡ R.begin x) × Untaken m σ c k x))

one_end : {r : Role} {c d : ℕ} → r ≡ closes c → r ≡ closes d → c ≡ d
one_end p q = cc

-- A sections' end is left for a section that no thread has taken in the instance, or once all are taken.
pub sections-left : {R : Region} {m : ℕ} {σ : State} {t v : ℕ} {τ : State} {c : ℕ} → ThreadStep R m σ t v τ → R.role (σ.node t) ≡ closes c → R.kind c ≡ sections
    → Takes R m σ v c (σ.encounters t c) ⊎ AllTaken R m σ c (σ.encounters t c)
sections-left {R} {m} {σ} {t = t} {c = c} (move h e) w k =
    let g : R.kind c ≡ sections → AllTaken R m σ c (σ.encounters t c) = subst (MayMove R m σ t) w h in
    inr (g k)
sections-left (enter h g e) w k = absurd (bad (cc))
sections-left (pass h g e) w k = absurd (bad (cc))
sections-left (again h l e) w k = let z = one_end h w in absurd (bad (cc))
sections-left (take h j p u e) w k = absurd (bad (cc))
sections-left {R} {m} {σ} {t = t} {v} (take_next {x = x} h j p u e) w k =
    inl (subst (λ (d : ℕ). Takes R m σ v d (σ.encounters t d)) (one_end h w) (x, (p, (e, u))))

-- From σ to τ thread t has taken section x of c, which no thread had taken in the instance.
abbrev pub TakenOnce : ℕ → State → State → ℕ → ℕ → ℕ → Type 0
TakenOnce m σ τ t c x =
    (τ.taken t c x ≡ true) × ((k : ℕ) → k < m → σ.encounters k c ≡ τ.encounters t c → σ.taken k c x ≡ false)

module _ {R : Region} (W : WellFormed R) (m : ℕ) (σ : State) (t v : ℕ) where
  not_entered : {c x : ℕ} → R.role v ≡ opens x → R.kind x ≡ section → R.parent x ≡ c → MayEnter R m σ t c (R.kind c) → ⊥
  not_entered {c} w k q g = subst (MayEnter R m σ t c) (ap R.kind (sym q) ∙ W.section-sections w k) g

  now-taken : (τ : State) {c x y : ℕ} → SectionOf R c y → v ≡ R.begin y → R.role v ≡ opens x → TakenOnce m σ τ t c y → TakenOnce m σ τ t (R.parent x) x
  now-taken τ {y = y} p e w T =
      subst (λ (n : ℕ). TakenOnce m σ τ t (R.parent n) n) (one-construct (ap R.role e ∙ p.begun) w)
      (subst (λ (d : ℕ). TakenOnce m σ τ t d y) (sym p.of-sections) T)

module _ {R : Region} (W : WellFormed R) {m : ℕ} {σ : State} {t v : ℕ} where
  -- A thread comes to a section's begin only by taking the section, and takes one that no thread has taken in the instance.
  pub section-once : {τ : State} {x : ℕ} → ThreadStep R m σ t v τ → R.role v ≡ opens x → R.kind x ≡ section → TakenOnce m σ τ t (R.parent x) x
  section-once {x = x} (move h e) w k = absurd (move-no-begin R m σ t (R.role (σ.node t)) (R.parent x) h (assigned-from W w k e))
  section-once (enter h g e) w k = absurd (not_entered W m σ t v w k (one-construct (assigned-from W w k e) h) g)
  section-once (pass h g e) w k = absurd (bad (cc (W.opens-ended h)))
  section-once (again h l e) w k =
      let z = one-construct (W.closes-begun h) (assigned-from W w k e) in
      absurd (bad (cc (W.section-sections w k)))
  section-once (take {c} {x = y} h j p u e) w k =
      now-taken W m σ t v (took (left σ t c v) t c y) p e w
      (took-at (left σ t c v) t c y, λ i l q. (u i l).1 (q ∙ one_more (counted (take h j p u e) c)))
    where
      one_more : Counted R σ (took (left σ t c v) t c y) t c → (took (left σ t c v) t c y).encounters t c ≡ suc (σ.encounters t c)
      one_more (inl n) = absurd (n.0 h)
      one_more (inr n) = n.1
  section-once (take_next {c} {x = y} h j p u e) w k =
      now-taken W m σ t v (took (moved σ t v) t c y) p e w
      (took-at (moved σ t v) t c y, λ i l q. (u i l).1 (q ∙ same (counted (take_next h j p u e) c)))
    where
      same : Counted R σ (took (moved σ t v) t c y) t c → (took (moved σ t v) t c y).encounters t c ≡ σ.encounters t c
      same (inl n) = n.1
      same (inr n) = absurd (bad (cc))

-- The state ρ, in which thread t has come to a node of this role from the begin or the end of c, with what t takes there: the section that the
-- node opens, if it is one of c.
abbrev pub arrived : Region → State → ℕ → ℕ → Role → State
arrived R ρ t c plain = ρ
arrived R ρ t c barrier = ρ
arrived R ρ t c (opens x) = cond (is (Kind-discrete (R.kind x) section) && eqb (R.parent x) c) (took ρ t c x) ρ
arrived R ρ t c (closes x) = ρ

-- The state after a step of t to v, from a node of this role.
abbrev pub outcome : Region → Role → State → ℕ → ℕ → State
outcome R plain σ t v = moved σ t v
outcome R barrier σ t v = moved σ t v
outcome R (opens c) σ t v = arrived R (left σ t c v) t c (R.role v)
outcome R (closes c) σ t v = arrived R (moved σ t v) t c (R.role v)

module _ (R : Region) (ρ : State) (t c : ℕ) where
  here-taken : {x : ℕ} → R.kind x ≡ section → R.parent x ≡ c → arrived R ρ t c (opens x) ≡ took ρ t c x
  here-taken {x} k q = rw (true-is (Kind-discrete (R.kind x) section) k, eq-eqb (R.parent x) c q)

  none-taken : (r : Role) → ((x : ℕ) → r ≡ opens x → R.kind x ≡ section → R.parent x ≡ c → ⊥) → arrived R ρ t c r ≡ ρ
  none-taken plain n = refl
  none-taken barrier n = refl
  none-taken (closes x) n = refl
  none-taken (opens x) n = elim (truth (is (Kind-discrete (R.kind x) section) && eqb (R.parent x) c)) [
    | inl h ↦ (let b = and_both (is (Kind-discrete (R.kind x) section)) (eqb (R.parent x) c) h in
        absurd (n x refl (is_true (Kind-discrete (R.kind x) section) b.0) (eqb-true (R.parent x) c b.1)))
    | inr h ↦ rw h
  ]

-- The thread, its target and the state before determine the state after.
pub determined : {R : Region} → WellFormed R → {m : ℕ} {σ : State} {t v : ℕ} {τ : State} → ThreadStep R m σ t v τ → τ ≡ outcome R (R.role (σ.node t)) σ t v
determined {R} W {m} {σ} {t = t} {v} (move h e) = go (R.role (σ.node t)) refl h
  where
    go : (r : Role) → R.role (σ.node t) ≡ r → MayMove R m σ t r → moved σ t v ≡ outcome R r σ t v
    go plain w h = refl
    go barrier w h = absurd h
    go (opens c) w h = absurd h
    go (closes c) w h = sym (none-taken R (moved σ t v) t c (R.role v) (λ x o k q. bad (cc (assigned-from W o k e))))
determined {R} W {m} {σ} {t = t} {v} (enter {c} h g e) =
    rw h (sym (none-taken R (left σ t c v) t c (R.role v) (λ x o k q. not_entered W m σ t v o k q g)))
determined {R} W {σ = σ} {t = t} {v} (pass {c} h g e) =
    rw h (sym (none-taken R (left σ t c v) t c (R.role v) (λ x o k q. bad (cc (W.opens-ended h)))))
determined {R} W {σ = σ} {t = t} {v} (again {c} h l e) =
    rw h (sym (none-taken R (moved σ t v) t c (R.role v) (λ x o k q. bad (cc (W.section-sections o k)))))
determined {R} W {σ = σ} {t = t} {v} (take {c} h k p u e) =
    rw (h, ap R.role e ∙ p.begun) (sym (here-taken R (left σ t c v) t c p.is-section p.of-sections))
determined {R} W {σ = σ} {t = t} {v} (take_next {c} h k p u e) =
    rw (h, ap R.role e ∙ p.begun) (sym (here-taken R (moved σ t v) t c p.is-section p.of-sections))
