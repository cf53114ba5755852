-- Hops: what a step of one thread looks like on the region alone. Barrier-free paths and constructs along hops.
-- Assumes nothing.
use Rattle.std.specs.Prelude.{◌≡◌, ◌⊎◌, ◌≢◌, true, false, ℕ}
use Rattle.std.proofs.Common.{ap, sym, ◌∙◌, subst, inl, inr}
use Rattle.lists.specs.Truth.{bad, clash}
use Rattle.chart.specs.Region.{barrier, opens, closes, Kind, single, master, critical, loop, ordered, sections, section, parallel, Outermost, Region}
use Rattle.chart.specs.InSection.{SectionOf, InSection}
use Rattle.chart.specs.WellFormed.{WellFormed}
use Rattle.theory_paths.specs.Path.{last, next, Open, BarrierFree}
use Rattle.theory_paths.specs.Connected.{Connected}
use Rattle.theory_paths.specs.Assigned.{assigned}
use Rattle.theory_paths.specs.PathLaws.{append}
use Rattle.theory_team.specs.State.{State}
use Rattle.theory_team.specs.Step.{ThreadStep, move, enter, pass, again, take, take_next}
use Rattle.theory_team.proofs.Laws.{one-construct, move-no-barrier}
use Rattle.theory_answers.specs.Unexcluded.{Returns}
use Rattle.theory_exact.specs.Constructs.{AfterBegin, BeforeEnd, back, forth, inside-open, entry, exit, through}

-- Kinds of constructs at whose end a thread may go in again: a do for another round, a sections for another section.
abbrev pub Reenters : Kind → Type 0
Reenters single = ⊥
Reenters master = ⊥
Reenters critical = ⊥
Reenters loop = Unit {0}
Reenters ordered = ⊥
Reenters sections = Unit {0}
Reenters section = ⊥
Reenters parallel = ⊥

pub data Hop (R : Region) (x v : ℕ) : Type 0 where
  by-edge : Open R x → R.edge x v ≡ true → Hop R x v
  by-pass : {c : ℕ} → R.role x ≡ opens c → v ≡ R.end c → Hop R x v
  by-again : {c : ℕ} → R.role x ≡ closes c → Reenters (R.kind c) → R.edge (R.begin c) v ≡ true → Hop R x v

-- The begin of a sections leads to its sections, so that a section is come to as along an edge from there.
pub hop : {R : Region} → WellFormed R → Connected R → {m : ℕ} {σ τ : State} {t v : ℕ} → ThreadStep R m σ t v τ → Hop R (σ.node t) v
hop {R} W C {m} {σ} {t = t} {v} = go
  where
    to-section : {c x : ℕ} → SectionOf R c x → v ≡ R.begin x → R.edge (R.begin c) v ≡ true
    to-section p q =
        subst (λ (n : ℕ). R.edge (R.begin n) v ≡ true) p.of-sections
        (assigned W C (ap R.role q ∙ p.begun) p.is-section)

    go : {τ : State} → ThreadStep R m σ t v τ → Hop R (σ.node t) v
    go (move h e) = by-edge (move-no-barrier R m σ t (R.role (σ.node t)) h) e
    go (enter h g e) = by-edge (λ q. bad (cc)) e
    go (pass h g e) = by-pass h e
    go (again h k e) = by-again h (subst Reenters (sym k) tt) e
    go (take h k p u q) = by-edge (λ z. bad (cc)) (subst (λ (n : ℕ). R.edge n v ≡ true) (sym (W.opens-begin h)) (to-section p q))
    go (take_next h k p u q) = by-again h (subst Reenters (sym k) tt) (to-section p q)

hop-open : {R : Region} {x v : ℕ} → Hop R x v → Open R x
hop-open (by-edge o e) = o
hop-open (by-pass h q) = λ z. bad (cc)
hop-open (by-again h k e) = λ z. bad (cc)

-- s is inside no construct, and is no begin
abbrev pub TopLevel : Region → ℕ → Type 0
TopLevel R s = (d : ℕ) → (R.inside s d ≡ false) × (R.role s ≢ opens d)

-- x is e, or e is an end of x in 01's sense
abbrev pub EndsAt : Region → ℕ → ℕ → Type 0
EndsAt R e x = (x ≡ e) ⊎ (Open R x × BarrierFree R x e)

-- the thread is past the begin of c and not past its end, or has a barrier-free path from the end behind it
abbrev pub Past : Region → ℕ → ℕ → Type 0
Past R x c = AfterBegin R x c ⊎ BarrierFree R (R.end c) x

-- where a hop to a node after the begin of c can have come from
abbrev pub CameFrom : Region → ℕ → ℕ → Type 0
CameFrom R x c = (R.inside x c ≡ true) ⊎ ((R.role x ≡ opens c) ⊎ ((R.role x ≡ closes c) × Reenters (R.kind c)))

module _ {R : Region} (W : WellFormed R) where
  pub barrier-top : {s : ℕ} → R.role s ≡ barrier → TopLevel R s
  barrier-top h d = (W.barrier-outside h d, λ q. bad (cc))

  pub end-top : {c : ℕ} → R.role (R.begin c) ≡ opens c → Outermost (R.kind c) → TopLevel R (R.end c)
  end-top o u d = (W.same-scope o d ∙ W.outermost o u d, λ q. bad (cc (W.opens-ended o)))

  pub released-outside : {b v c : ℕ} → R.role b ≡ barrier → R.edge b v ≡ true → AfterBegin R v c → ⊥
  released-outside {c = c} h e a = elim (back W e a) [ inl i ↦ clash i (W.barrier-outside h c) | inr o ↦ bad (cc) ]

  after_open : {x c : ℕ} → AfterBegin R x c → Open R x
  after_open (inl i) = inside-open W i
  after_open (inr h) = λ q. bad (cc)

  end-scope : {x d : ℕ} → R.role x ≡ closes d → (k : ℕ) → R.inside x k ≡ R.inside (R.begin d) k
  end-scope h k = ap (λ (n : ℕ). R.inside n k) (W.closes-end h) ∙ W.same-scope (W.closes-begun h) k

  pass-scope : {x v d : ℕ} → R.role x ≡ opens d → v ≡ R.end d → (k : ℕ) → R.inside v k ≡ R.inside x k
  pass-scope h q k = ap (λ (n : ℕ). R.inside n k) q ∙ W.same-scope h k

  -- hops keep to the constructs as edges do
  pub came_from : {x v c : ℕ} → Hop R x v → AfterBegin R v c → CameFrom R x c
  came_from (by-edge o e) a = elim (back W e a) [ inl i ↦ inl i | inr h ↦ inr (inl h) ]
  came_from {c = c} (by-pass h q) (inl i) = inl (sym (pass-scope h q c) ∙ i)
  came_from (by-pass h q) (inr g) = inr (inl (cc (W.opens-ended h)))
  came_from {c = c} (by-again h k e) a = elim (back W e a) [
    | inl i ↦ inl (end-scope h c ∙ i)
    | inr o ↦ let q = one-construct (W.closes-begun h) o in inr (inr ((cc), subst (λ (d : ℕ). Reenters (R.kind d)) q k))
  ]

  pub hop-after : {x v c : ℕ} → Hop R x v → BeforeEnd R x c → AfterBegin R v c
  hop-after (by-edge o e) b = forth W e b
  hop-after {c = c} (by-pass h q) (inl i) = inl (pass-scope h q c ∙ i)
  hop-after (by-pass h q) (inr o) = inr (cc (W.opens-ended h))
  hop-after {c = c} (by-again h k e) (inl i) = W.leave e (sym (end-scope h c) ∙ i)
  hop-after (by-again h k e) (inr o) = absurd (bad (cc))

  -- in a section after a hop: there before, or come to its begin
  pub hop-section : {x v s : ℕ} → Hop R x v → InSection R v s → InSection R x s ⊎ (R.role v ≡ opens s)
  hop-section {x} {v} {s} h i = go i.within
    where
      here : (R.inside x s ≡ true) ⊎ ((R.role x ≡ opens s) ⊎ (R.role x ≡ closes s)) → InSection R x s
      here w = record { is-section = i.is-section; within = w }

      from : CameFrom R x s → InSection R x s
      from (inl a) = here (inl a)
      from (inr (inl o)) = here (inr (inl o))
      from (inr (inr o)) = here (inr (inr o.0))

      go : (R.inside v s ≡ true) ⊎ ((R.role v ≡ opens s) ⊎ (R.role v ≡ closes s)) → InSection R x s ⊎ (R.role v ≡ opens s)
      go (inl a) = inl (from (came_from h (inl a)))
      go (inr (inl o)) = inr o
      go (inr (inr o)) = inl (from (came_from h (inr o)))

  -- at the begin of c again, having passed c
  pub past-returns : {x c : ℕ} → R.role x ≡ opens c → Past R x c → Returns R c
  past-returns h (inl (inl i)) = absurd (clash i (W.begin-outside h))
  past-returns h (inl (inr z)) = absurd (bad (cc))
  past-returns {c = c} h (inr w) = subst (BarrierFree R (R.end c)) (W.opens-begin h) w

  pub ends-path : {e x : ℕ} → R.role e ≡ barrier → EndsAt R e x → Open R x → BarrierFree R x e
  ends-path b (inl q) o = absurd (o (ap R.role q ∙ b))
  ends-path b (inr w) o = w.1

  from_end : {e v c : ℕ} → R.role e ≡ barrier → AfterBegin R v c → BarrierFree R v e → BarrierFree R (R.end c) e
  from_end {c = c} b (inl i) w = (exit W (W.barrier-outside b c) (λ q. bad (cc)) w (inl i)).1
  from_end {e} b (inr h) w = subst (λ (n : ℕ). BarrierFree R n e) (W.closes-end h) w

  module _ (C : Connected R) where
    -- a barrier-free path from a node at top level goes on with the thread
    pub hop-from : {s x v : ℕ} → TopLevel R s → BarrierFree R s x → Hop R x v → BarrierFree R s v
    hop-from top w (by-edge o e) = append w o (last e)
    hop-from {s} top w (by-pass h q) = subst (BarrierFree R s) (sym q) (append w (λ z. bad (cc)) (through W C h))
    hop-from top w (by-again {c} h k e) = append (entry W (top c).0 (top c).1 w (inr h)).0 (λ z. bad (cc (W.closes-begun h))) (last e)

    -- A barrier-free path to a barrier was there before the hop. This is not the law above turned round: a thread passes a construct and
    -- comes to a do's next round in one direction only.
    hop-path : {e x v : ℕ} → R.role e ≡ barrier → Hop R x v → EndsAt R e v → BarrierFree R x e
    hop-path {x = x} b (by-edge o d) (inl q) = subst (BarrierFree R x) q (last d)
    hop-path b (by-edge o d) (inr w) = next d w.0 w.1
    hop-path {e} b (by-pass h q) w =
        let a = ap R.role q ∙ W.opens-ended h in
        append (through W C h) (after_open (inr (W.opens-ended h))) (subst (λ (n : ℕ). BarrierFree R n e) q (ends-path b w (after_open (inr a))))
    hop-path {e} b (by-again h k d) w =
        let a = W.after-begin d (W.closes-begun h) in
        subst (λ (n : ℕ). BarrierFree R n e) (sym (W.closes-end h)) (from_end b a (ends-path b w (after_open a)))

    pub hop-ends : {e x v : ℕ} → R.role e ≡ barrier → Hop R x v → EndsAt R e v → EndsAt R e x
    hop-ends b h w = inr (hop-open h, hop-path b h w)

    -- what a thread has passed, it has passed for the rest of the interval
    pub hop-past : {x v c : ℕ} → R.role (R.begin c) ≡ opens c → Outermost (R.kind c) → Hop R x v → Past R x c → Past R v c
    hop-past o u h (inl (inl i)) = inl (hop-after h (inl i))
    hop-past o u h (inr w) = inr (hop-from (end-top o u) w h)
    hop-past {x} {v} {c} o u h (inl (inr z)) = from h
      where
        from : Hop R x v → Past R v c
        from (by-edge a e) = inr (subst (λ (n : ℕ). BarrierFree R n v) (W.closes-end z) (last e))
        from (by-pass g q) = absurd (bad (cc))
        from (by-again {c = d} g k e) = let y : R.role (R.begin d) ≡ opens d = W.closes-begun g in inl (W.after-begin e (cc))
