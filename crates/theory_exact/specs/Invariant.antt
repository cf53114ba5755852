-- What holds in every state that a team reaches, and where the threads of a finished run go next.
-- Assumes nothing.
use Rattle.std.specs.Prelude.{◌≡◌, refl, ◌⊎◌, ◌≢◌, true, ℕ, suc, ◌≤◌, ◌<◌}
use Rattle.std.proofs.Common.{ap, sym, ◌∙◌, subst, subst₂, inl, inr, arith}
use Rattle.std.proofs.Math.Decide.{ℕ_discrete}
use Rattle.lists.specs.Truth.{bad, clash}
use Rattle.chart.specs.Region.{barrier, opens, Kind, single, master, sections, Outermost, Region}
use Rattle.chart.specs.InOrdered.{InOrdered}
use Rattle.chart.specs.InSection.{InSection}
use Rattle.chart.specs.WellFormed.{WellFormed}
use Rattle.chart.proofs.Sections.{inside-sections}
use Rattle.theory_paths.specs.Path.{last, BarrierFree}
use Rattle.theory_paths.specs.Connected.{Connected}
use Rattle.theory_team.specs.State.{State, initial, released}
use Rattle.theory_team.specs.Step.{First, NoneOrdered, MayEnter, ThreadStep, Step, one, release}
use Rattle.theory_team.specs.Run.{Run, done, step, Finished}
use Rattle.theory_team.proofs.Laws.{released-at, released-count, one-construct, Counted, arrives, node_kept, count_kept, taken-kept, own-taken, counted, enters, no-barrier}
use Rattle.theory_team.proofs.SectionLaws.{section-once}
use Rattle.theory_answers.specs.Unexcluded.{Returns}
use Rattle.theory_exact.specs.Constructs.{AfterBegin, inside-open}
use Rattle.theory_exact.specs.Nesting.{inside-do, is-do}
use Rattle.theory_exact.specs.Hops.{Reenters, hop, EndsAt, Past, CameFrom, barrier-top, released-outside, came_from, hop-after, hop-from, hop-section, hop-ends, hop-past, past-returns}

-- the masters that enclose x are masters of thread t
abbrev pub MasterOf : Region → ℕ → ℕ → Type 0
MasterOf R t x = (c : ℕ) → R.kind c ≡ master → R.inside x c ≡ true → t ≡ R.thread c

-- different threads at nodes with Z have different counts of c
abbrev pub Apart : ℕ → (ℕ → Type 0) → ℕ → State → Type 0
Apart m Z c σ = (i j : ℕ) → i < m → j < m → i ≢ j → Z (σ.node i) → Z (σ.node j) → σ.encounters i c ≢ σ.encounters j c

-- the last release was at the barrier s
abbrev pub Since : Region → ℕ → State → Type 0
Since R m σ = (s : ℕ) × (R.role s ≡ barrier) × ((t : ℕ) → t < m → BarrierFree R s (σ.node t))

-- the next one will be at the barrier e
abbrev pub Until : Region → ℕ → State → Type 0
Until R m σ = (e : ℕ) × (R.role e ≡ barrier) × ((t : ℕ) → t < m → EndsAt R e (σ.node t))

pub record Invariant (R : Region) (m : ℕ) (σ : State) : Type 0 where
  -- all are still at start, or were released from one barrier
  pub since : ((t : ℕ) → t < m → σ.node t ≡ R.start) ⊎ Since R m σ
  -- only its own thread is in a master
  pub masters : (t : ℕ) → t < m → MasterOf R t (σ.node t)
  -- a thread in a construct has left its begin, and one that has left the begin of an outermost construct is past it; left twice, the construct
  -- returns. This is false of constructs inside a do: the step back at the do's end comes to their begins again.
  pub entered : (c t : ℕ) → t < m → AfterBegin R (σ.node t) c → 1 ≤ σ.encounters t c
  pub passed : (c : ℕ) → R.role (R.begin c) ≡ opens c → Outermost (R.kind c) → (t : ℕ) → t < m → 1 ≤ σ.encounters t c → Past R (σ.node t) c
  pub returns : (c : ℕ) → R.role (R.begin c) ≡ opens c → Outermost (R.kind c) → (t : ℕ) → t < m → 2 ≤ σ.encounters t c → Returns R c
  -- two threads in one single, or in ordereds of one do, are in different instances of it
  pub singles : (c : ℕ) → R.kind c ≡ single → Apart m (λ x. R.inside x c ≡ true) c σ
  pub ordereds : (d : ℕ) → Apart m (λ x. InOrdered R x d) d σ
  -- a thread in a section has taken it, and two threads in one section are in different instances of its sections
  pub holds : (t : ℕ) → t < m → (s : ℕ) → InSection R (σ.node t) s → σ.taken t (R.parent s) s ≡ true
  pub sections : (s : ℕ) → Apart m (λ x. InSection R x s) (R.parent s) σ

module _ {R : Region} {m : ℕ} {σ τ : State} {t v : ℕ} (S : ThreadStep R m σ t v τ) where
  -- what holds of the thread that steps, and held of the others, holds of all; so for two threads
  each : (c : ℕ) (Q : ℕ → ℕ → ℕ → Type 0) → Q t v (τ.encounters t c) → ((k : ℕ) → k < m → Q k (σ.node k) (σ.encounters k c))
      → (k : ℕ) → k < m → Q k (τ.node k) (τ.encounters k c)
  each c Q mine old k l = go (ℕ_discrete k t)
    where
      go : Dec (k ≡ t) → Q k (τ.node k) (τ.encounters k c)
      go (yes q) = subst (λ (n : ℕ). Q n (τ.node n) (τ.encounters n c)) (sym q) (subst (λ (x : ℕ). Q t x (τ.encounters t c)) (sym (arrives S)) mine)
      go (no n) = subst₂ (λ (x n : ℕ). Q k x n) (sym (node_kept S k n)) (sym (count_kept S k n c)) (old k l)

  pairs : (Z : ℕ → Type 0) (c : ℕ) → ((k : ℕ) → k < m → k ≢ t → Z (σ.node k) → Z v → τ.encounters t c ≢ σ.encounters k c)
      → Apart m Z c σ → Apart m Z c τ
  pairs Z c mine old i j li lj n zi zj = go (ℕ_discrete i t) (ℕ_discrete j t)
    where
      own : {k : ℕ} → k ≡ t → Z (τ.node k) → Z v
      own q z = subst Z (ap τ.node q ∙ arrives S) z

      other : {k : ℕ} → k ≢ t → Z (τ.node k) → Z (σ.node k)
      other {k} d z = subst Z (node_kept S k d) z

      go : Dec (i ≡ t) → Dec (j ≡ t) → τ.encounters i c ≢ τ.encounters j c
      go (yes p) (yes q) = absurd (n (p ∙ sym q))
      go (yes p) (no d) = λ z. mine j lj d (other d zj) (own p zi) (ap (λ (k : ℕ). τ.encounters k c) (sym p) ∙ z ∙ count_kept S j d c)
      go (no d) (yes q) = λ z. mine i li d (other d zi) (own q zj) (ap (λ (k : ℕ). τ.encounters k c) (sym q) ∙ sym z ∙ count_kept S i d c)
      go (no d) (no e) = λ z. old i j li lj n (other d zi) (other e zj) (sym (count_kept S i d c) ∙ z ∙ count_kept S j e c)

  pub grows : (c : ℕ) → σ.encounters t c ≤ τ.encounters t c
  grows c = elim (counted S c) [ inl h ↦ omega (arith, h.1) | inr h ↦ omega (arith, h.1) ]

  pub rises : {c : ℕ} → R.role (σ.node t) ≡ opens c → τ.encounters t c ≡ suc (σ.encounters t c)
  rises {c} w = elim (counted S c) [ inl h ↦ absurd (h.0 w) | inr h ↦ h.1 ]

  pub stays : {c : ℕ} → R.role (σ.node t) ≢ opens c → τ.encounters t c ≡ σ.encounters t c
  stays {c} n = elim (counted S c) [ inl h ↦ h.1 | inr h ↦ absurd (n h.0) ]

module _ {R : Region} (W : WellFormed R) (C : Connected R) {m : ℕ} where
  module _ {σ τ : State} {t v : ℕ} (l : t < m) (S : ThreadStep R m σ t v τ) (I : Invariant R m σ) where
    step-since : ((t : ℕ) → t < m → σ.node t ≡ R.start) ⊎ Since R m σ → Since R m τ
    step-since (inl h) = absurd (no-barrier S (ap R.role (h t l) ∙ W.start-barrier))
    step-since (inr h) = (h.0, h.1, each S 0 (λ k x n. BarrierFree R h.0 x) (hop-from W C (barrier-top W h.1) (h.2 t l) (hop W C S)) h.2)

    -- from its begin into c: by the rule of c's kind, and not straight to the end
    ruled : {c : ℕ} {k : Kind} → R.kind c ≡ k → k ≢ sections → R.role (σ.node t) ≡ opens c → R.inside v c ≡ true → MayEnter R m σ t c k
    ruled {c} q n w i = elim (enters S w) [
      | inl z ↦ absurd (clash i (ap (λ (n : ℕ). R.inside n c) z ∙ W.same-scope w c ∙ W.begin-outside w))
      | inr (inl g) ↦ subst (MayEnter R m σ t c) q g
      | inr (inr z) ↦ absurd (n (sym q ∙ z))
    ]

    step-masters : MasterOf R t v
    step-masters c q i = elim (came_from W (hop W C S) (inl i)) [
      | inl h ↦ I.masters t l c q h
      | inr (inl w) ↦ ruled q (λ z. bad (cc)) w i
      | inr (inr h) ↦ absurd (subst Reenters q h.1)
    ]

    step-entered : (c : ℕ) → AfterBegin R v c → 1 ≤ τ.encounters t c
    step-entered c a = elim (came_from W (hop W C S) a) [
      | inl i ↦ omega (arith, I.entered c t l (inl i), grows S c)
      | inr (inl w) ↦ omega (arith, rises S w)
      | inr (inr h) ↦ omega (arith, I.entered c t l (inr h.0), grows S c)
    ]

    step-passed : (c : ℕ) → R.role (R.begin c) ≡ opens c → Outermost (R.kind c) → Counted R σ τ t c → 1 ≤ τ.encounters t c → Past R v c
    step-passed c o u (inl h) n = hop-past W C o u (hop W C S) (I.passed c o u t l (omega (arith, h.1)))
    step-passed c o u (inr h) n = inl (hop-after W (hop W C S) (inr h.0))

    step-returns : (c : ℕ) → R.role (R.begin c) ≡ opens c → Outermost (R.kind c) → Counted R σ τ t c → 2 ≤ τ.encounters t c → Returns R c
    step-returns c o u (inl h) n = I.returns c o u t l (omega (arith, h.1))
    step-returns c o u (inr h) n = past-returns W h.0 (I.passed c o u t l (omega (arith, h.1)))

    step-singles : (c : ℕ) → R.kind c ≡ single → (k : ℕ) → k < m → k ≢ t → R.inside (σ.node k) c ≡ true → R.inside v c ≡ true
        → τ.encounters t c ≢ σ.encounters k c
    step-singles c q k j n a i = elim (came_from W (hop W C S) (inl i)) [
      | inl h ↦ (λ z. I.singles c q t k l j (λ y. n (sym y)) h a (sym (stays S (λ w. clash h (W.begin-outside w))) ∙ z))
      | inr (inl w) ↦ (let f : First m σ t c = ruled q (λ z. bad (cc)) w i in omega (arith, f k j, rises S w))
      | inr (inr h) ↦ absurd (subst Reenters q h.1)
    ]

    step-ordereds : (d k : ℕ) → k < m → k ≢ t → InOrdered R (σ.node k) d → (b : InOrdered R v d) → τ.encounters t d ≢ σ.encounters k d
    step-ordereds d k j n a b = go (came_from W (hop W C S) (inl b.within))
      where
        go : CameFrom R (σ.node t) b.construct → τ.encounters t d ≢ σ.encounters k d
        go (inl h) =
            let o : InOrdered R (σ.node t) d = record { construct = b.construct; is-ordered = b.is-ordered; of-do = b.of-do; within = h } in
            λ z. I.ordereds d t k l j (λ y. n (sym y)) o a (sym (stays S (λ w. clash (inside-do W o) (W.begin-outside w))) ∙ z)
        go (inr (inl w)) =
            let f : NoneOrdered R m σ t d = subst (NoneOrdered R m σ t) b.of-do (ruled b.is-ordered (λ z. bad (cc)) w b.within) in
            let u : R.role (σ.node t) ≢ opens d = λ y. bad (cc (one-construct w y, b.is-ordered, is-do W b)) in
            λ z. f k j n a (sym z ∙ stays S u)
        go (inr (inr h)) = absurd (subst Reenters b.is-ordered h.1)

    -- t does not leave the begin of a sections from inside it
    not-leaving : (s : ℕ) → InSection R (σ.node t) s → R.role (σ.node t) ≢ opens (R.parent s)
    not-leaving s i w = clash (inside-sections W i) (W.begin-outside w)

    step-holds : (s : ℕ) → InSection R v s → τ.taken t (R.parent s) s ≡ true
    step-holds s i = elim (hop-section W (hop W C S) i) [
      | inl h ↦ elim (own-taken S (R.parent s) s) [
        | inl q ↦ q ∙ I.holds t l s h
        | inr (inl w) ↦ absurd (not-leaving s h w)
        | inr (inr q) ↦ q
      ]
      | inr o ↦ (section-once W S o i.is-section).0
    ]

    all_hold : (k : ℕ) → k < m → (s : ℕ) → InSection R (τ.node k) s → τ.taken k (R.parent s) s ≡ true
    all_hold k j s i = elim (ℕ_discrete k t) [
      | yes q ↦ subst (λ (n : ℕ). τ.taken n (R.parent s) s ≡ true) (sym q)
          (step-holds s (subst (λ (x : ℕ). InSection R x s) (ap τ.node q ∙ arrives S) i))
      | no n ↦ taken-kept S k n (R.parent s) s ∙ I.holds k j s (subst (λ (x : ℕ). InSection R x s) (node_kept S k n) i)
    ]

    step-sections : (s k : ℕ) → k < m → k ≢ t → InSection R (σ.node k) s → InSection R v s → τ.encounters t (R.parent s) ≢ σ.encounters k (R.parent s)
    step-sections s k j n a i = elim (hop-section W (hop W C S) i) [
      | inl h ↦ (λ z. I.sections s t k l j (λ y. n (sym y)) h a (sym (stays S (not-leaving s h)) ∙ z))
      | inr o ↦ (λ z. clash (I.holds k j s a) ((section-once W S o i.is-section).1 k j (sym z)))
    ]

    thread-step : Invariant R m τ
    thread-step = record {
      since = inr (step-since I.since);
      masters = each S 0 (λ k x n. MasterOf R k x) step-masters I.masters;
      entered = λ c. each S c (λ k x n. AfterBegin R x c → 1 ≤ n) (step-entered c) (I.entered c);
      passed = λ c o u. each S c (λ k x n. 1 ≤ n → Past R x c) (step-passed c o u (counted S c)) (I.passed c o u);
      returns = λ c o u. each S c (λ k x n. 2 ≤ n → Returns R c) (step-returns c o u (counted S c)) (I.returns c o u);
      singles = λ c q. pairs S (λ x. R.inside x c ≡ true) c (step-singles c q) (I.singles c q);
      ordereds = λ d. pairs S (λ x. InOrdered R x d) d (step-ordereds d) (I.ordereds d);
      holds = all_hold;
      sections = λ s. pairs S (λ x. InSection R x s) (R.parent s) (step-sections s) (I.sections s);
    }

  -- a state in which nobody is in a construct and all counts are 0
  fresh : {σ : State} → ((t : ℕ) → t < m → σ.node t ≡ R.start) ⊎ Since R m σ → ((t c : ℕ) → t < m → AfterBegin R (σ.node t) c → ⊥)
      → ((t c : ℕ) → σ.encounters t c ≡ 0) → Invariant R m σ
  fresh {σ} s out none = record {
    since = s;
    masters = λ t l c q i. absurd (out t c l (inl i));
    entered = λ c t l a. absurd (out t c l a);
    passed = λ c o u t l n. absurd (positive t c n);
    returns = λ c o u t l n. absurd (positive t c (omega arith));
    singles = λ c q i j li lj n a b. absurd (out i c li (inl a));
    ordereds = λ d i j li lj n a b. absurd (out i a.construct li (inl a.within));
    holds = λ t l s i. absurd (out t (R.parent s) l (inl (inside-sections W i)));
    sections = λ s i j li lj n a b. absurd (out i (R.parent s) li (inl (inside-sections W a)));
  }
    where
      positive : (t c : ℕ) → 1 ≤ σ.encounters t c → ⊥
      positive t c n = omega (arith, none t c)

  pub invariant-first : Invariant R m (initial R)
  unfolding initial
  invariant-first = fresh (inl (λ t l. refl)) (λ t c l a. outside a) (λ t c. refl)
    where
      outside : {c : ℕ} → AfterBegin R R.start c → ⊥
      outside (inl i) = inside-open W i W.start-barrier
      outside (inr h) = bad (cc W.start-barrier)

  invariant-step : {σ τ : State} → Step R m σ τ → Invariant R m σ → Invariant R m τ
  invariant-step (one l s) I = thread-step l s I
  invariant-step {σ} (release b to h n all edges) I = fresh (inr (b, h, λ t l. last (target t l)))
      (λ t c l a. released-outside W h (target t l) a) (released-count m σ to)
    where
      target : (t : ℕ) → t < m → R.edge b ((released m σ to).node t) ≡ true
      target t l = subst (λ (x : ℕ). R.edge b x ≡ true) (sym (released-at m σ to t l)) (edges t l)

  pub invariant : {σ τ : State} → Run R m σ τ → Invariant R m σ → Invariant R m τ
  invariant done I = I
  invariant (step s r) I = invariant r (invariant-step s I)

  pub next-barrier : {σ τ : State} → Run R m σ τ → Finished R m τ → Until R m σ
  next-barrier done f = (R.finish, W.finish-barrier, λ t l. inl (f t l))
  next-barrier (step (release b to h n all edges) r) f = (b, h, λ t l. inl (all t l))
  next-barrier {σ} (step {τ = ρ} (one {t = t} l s) r) f = let N = next-barrier r f in (N.0, N.1, λ k i. go N k i (ℕ_discrete k t))
    where
      go : (N : Until R m ρ) (k : ℕ) → k < m → Dec (k ≡ t) → EndsAt R N.0 (σ.node k)
      go N k i (yes q) = subst (λ (j : ℕ). EndsAt R N.0 (σ.node j)) (sym q) (hop-ends W C N.1 (hop W C s) (subst (EndsAt R N.0) (arrives s) (N.2 t l)))
      go N k i (no d) = subst (EndsAt R N.0) (node_kept s k d) (N.2 k i)
