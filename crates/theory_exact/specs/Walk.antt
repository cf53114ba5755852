-- A thread walks along a path while the others stand still.
-- Assumes nothing.
use Rattle.std.specs.Prelude.{◌≡◌, refl, ◌⊎◌, ◌≢◌, Bool, true, false, ℕ, suc, ◌≤◌, ◌<◌}
use Rattle.std.proofs.Common.{ap, sym, ◌∙◌, subst, inl, inr, arith}
use Rattle.std.proofs.Math.Decide.{ℕ_discrete, dec_lt}
use Rattle.lists.specs.Truth.{bad, clash, truth, false-if, is, is_true, true-is}
use Rattle.lists.specs.Range.{any, any_at, at-any}
use Rattle.chart.specs.Region.{Role, plain, barrier, opens, closes, Kind, Kind-discrete, single, master, critical, loop, ordered, sections, section, parallel, Region}
use Rattle.chart.specs.InOrdered.{InOrdered}
use Rattle.chart.specs.InSection.{SectionOf, InSection}
use Rattle.chart.specs.WellFormed.{WellFormed}
use Rattle.chart.proofs.Sections.{inside-sections}
use Rattle.theory_paths.specs.Path.{Path, last, next, Edge, Open}
use Rattle.theory_paths.specs.Connected.{Connected}
use Rattle.theory_paths.specs.PathLaws.{Rest}
use Rattle.theory_team.specs.State.{State}
use Rattle.theory_team.specs.Step.{First, NotFirst, NoneOrdered, Untaken, MayEnter, MayPass, MayMove, ThreadStep, move, enter, pass, take}
use Rattle.theory_team.proofs.Laws.{one-construct, move-no-begin, arrives, count_kept, node_kept}
use Rattle.theory_exact.specs.Nesting.{is-do, sections-outermost}
use Rattle.theory_exact.specs.Hops.{end-top}
use Rattle.theory_exact.specs.Invariant.{MasterOf, rises, stays}
use Rattle.theory_exact.specs.Solo.{Solo, Comes, stay, then, alone_at, quietly}
use Rattle.theory_exact.specs.Sections.{in-or-not, along-section, take_rest, to_end}

pub first-or-not : (m : ℕ) (σ : State) (t c : ℕ) → First m σ t c ⊎ NotFirst m σ t c
first-or-not m σ t c = elim (truth (any m more)) [
  | inl h ↦ inr (let k = any_at m more h in (k.0, k.1, is_true (dec_lt (σ.encounters t c) (σ.encounters k.0 c)) k.2))
  | inr h ↦ inl (λ k l. not_more k (λ z. clash (at-any m more k l (true-is (dec_lt (σ.encounters t c) (σ.encounters k c)) z)) h))
]
  where
    more : ℕ → Bool
    more k = is (dec_lt (σ.encounters t c) (σ.encounters k c))

    not_more : (k : ℕ) → ¬ (σ.encounters t c < σ.encounters k c) → σ.encounters k c ≤ σ.encounters t c
    not_more k n = omega arith

-- In the instance of c that t comes to next no other thread has taken section x, and none is past it.
abbrev pub LeftNext : ℕ → State → ℕ → ℕ → ℕ → Type 0
LeftNext m σ t c x = (k : ℕ) → k < m → k ≢ t
    → (σ.encounters k c ≤ σ.encounters t c) ⊎ ((σ.encounters k c ≡ suc (σ.encounters t c)) × (σ.taken k c x ≡ false))

-- What thread t needs to walk to y while the others stand still.
pub record Ready (R : Region) (m t : ℕ) (σ : State) (y : ℕ) : Type 0 where
  pub masters : MasterOf R t y
  pub singles : (c : ℕ) → R.kind c ≡ single → R.inside y c ≡ true → First m σ t c
  -- leaving the begin of d, it comes to have a higher count than those that are in ordereds of d
  pub dos : (d : ℕ) → R.inside y d ≡ true → (k : ℕ) → k < m → k ≢ t → InOrdered R (σ.node k) d → σ.encounters k d ≤ σ.encounters t d
  -- the section that y is in is left in the instance that t comes to
  pub sections : (s : ℕ) → InSection R y s → LeftNext m σ t (R.parent s) s
  pub clear : (d : ℕ) → R.inside (σ.node t) d ≡ true → NoneOrdered R m σ t d

-- To a node outside of everything it needs no more than to come out of the dos that it is in.
pub ready-outside : {R : Region} → WellFormed R → {m t : ℕ} {σ : State} {y : ℕ} → ((c : ℕ) → R.inside y c ≡ true → ⊥)
    → ((d : ℕ) → R.inside (σ.node t) d ≡ true → NoneOrdered R m σ t d) → Ready R m t σ y
ready-outside {R} W out f = record {
  masters = λ c q i. absurd (out c i);
  singles = λ c q i. absurd (out c i);
  dos = λ d i. absurd (out d i);
  sections = λ s i. absurd (out (R.parent s) (inside-sections W i));
  clear = f;
}

-- Where t stands while its path to y is at x: there, or at the end of a construct that encloses x and that it went straight through, or at the
-- end of the sections construct of a section that x is in and y is not.
abbrev pub Follows : Region → ℕ → State → ℕ → ℕ → Type 0
Follows R t σ x y =
    (σ.node t ≡ x)
    ⊎ (((c : ℕ) × (R.role (σ.node t) ≡ closes c) × (R.inside x c ≡ true) × (R.inside y c ≡ false))
    ⊎ ((s : ℕ) × (R.role (σ.node t) ≡ closes (R.parent s)) × InSection R x s × (InSection R y s → ⊥)))

arrived : (R : Region) (t : ℕ) (σ : State) (y : ℕ) → Follows R t σ y y → σ.node t ≡ y
arrived R t σ y (inl q) = q
arrived R t σ y (inr (inl h)) = absurd (clash h.2 h.3)
arrived R t σ y (inr (inr h)) = absurd (h.3 h.2)

-- One edge further, to z.
abbrev Further : Region → (ℕ → Type 0) → ℕ → ℕ → State → ℕ → ℕ → Type 0
Further R P m t σ z y = (τ : State) × Solo R P m t σ τ × Ready R m t τ y × Follows R t τ z y

module _ {R : Region} (W : WellFormed R) (C : Connected R) {m t : ℕ} (t-in : t < m) {P : ℕ → Type 0} (free : (z : ℕ) → P z → Open R z) {y : ℕ} where
  -- what t does keeps it ready, as long as the way is clear
  ready-later : {σ τ : State} → Solo R P m t σ τ → ((d : ℕ) → R.inside (τ.node t) d ≡ true → NoneOrdered R m τ t d) → Ready R m t σ y → Ready R m t τ y
  ready-later {σ} {τ} A clear r = record {
    masters = r.masters;
    singles = λ c q i k l. first c q i k l (ℕ_discrete k t);
    dos = λ d i k l n a. omega (arith, A.count_same k n d, r.dos d i k l n (subst (λ (x : ℕ). InOrdered R x d) (A.node-same k n) a), A.grow d);
    sections = λ s i k l n. still-left (R.parent s) s k n (r.sections s i k l n) (dec_lt (σ.encounters t (R.parent s)) (τ.encounters t (R.parent s)));
    clear = clear;
  }
    where
      first : (c : ℕ) → R.kind c ≡ single → R.inside y c ≡ true → (k : ℕ) → k < m → Dec (k ≡ t) → τ.encounters k c ≤ τ.encounters t c
      first c q i k l (yes z) = subst (λ (j : ℕ). τ.encounters j c ≤ τ.encounters t c) (sym z) (omega arith)
      first c q i k l (no n) = omega (arith, A.count_same k n c, r.singles c q i k l, A.grow c)

      still-left : (c x k : ℕ) → k ≢ t → (σ.encounters k c ≤ σ.encounters t c) ⊎ ((σ.encounters k c ≡ suc (σ.encounters t c)) × (σ.taken k c x ≡ false))
          → Dec (σ.encounters t c < τ.encounters t c)
          → (τ.encounters k c ≤ τ.encounters t c) ⊎ ((τ.encounters k c ≡ suc (τ.encounters t c)) × (τ.taken k c x ≡ false))
      still-left c x k n (inl h) d = inl (omega (arith, A.count_same k n c, A.grow c))
      still-left c x k n (inr h) (yes d) = inl (omega (arith, A.count_same k n c, h.0))
      still-left c x k n (inr h) (no d) = inr (omega (arith, A.count_same k n c, h.0, A.grow c), A.taken-same k n c x ∙ h.1)

  -- a do is entered only if y is inside it
  ready-next : {σ τ : State} {v : ℕ} → P (σ.node t) → ThreadStep R m σ t v τ
      → ((d : ℕ) → R.kind d ≡ loop → R.inside v d ≡ true → (R.inside (σ.node t) d ≡ true) ⊎ ((R.role (σ.node t) ≡ opens d) × (R.inside y d ≡ true)))
      → Ready R m t σ y → Ready R m t τ y
  ready-next {σ} {τ} {v} p S f r =
      ready-later (alone_at W t-in S p) (λ d i k l n a. differ d k l n (before k n a) (f d (is-do W a) (subst (λ (x : ℕ). R.inside x d ≡ true) (arrives S) i))) r
    where
      before : {d : ℕ} (k : ℕ) → k ≢ t → InOrdered R (τ.node k) d → InOrdered R (σ.node k) d
      before {d} k n a = subst (λ (x : ℕ). InOrdered R x d) (node_kept S k n) a

      differ : (d k : ℕ) → k < m → k ≢ t → InOrdered R (σ.node k) d
          → (R.inside (σ.node t) d ≡ true) ⊎ ((R.role (σ.node t) ≡ opens d) × (R.inside y d ≡ true)) → τ.encounters k d ≢ τ.encounters t d
      differ d k l n a (inl i) = omega (arith, count_kept S k n d, r.clear d i k l n a, stays S (λ w. clash i (W.begin-outside w)))
      differ d k l n a (inr w) = omega (arith, count_kept S k n d, r.dos d w.1 k l n a, rises S w.0)

  module _ {σ : State} {z : ℕ} (p : P (σ.node t)) (e : R.edge (σ.node t) z ≡ true) (r : Ready R m t σ y) where
    by-edge : {τ : State} → ThreadStep R m σ t z τ → ((c : ℕ) → R.role (σ.node t) ≡ opens c → R.kind c ≡ loop → R.inside y c ≡ true) → Further R P m t σ z y
    by-edge {τ} S f = (
      τ,
      alone_at W t-in S p,
      ready-next p S (λ d k i. elim (W.enter e i) [ inl h ↦ inl h | inr h ↦ inr (h, f d h k) ]) r,
      inl (arrives S),
    )

    by_move : MayMove R m σ t (R.role (σ.node t)) → Further R P m t σ z y
    by_move h = by-edge (move h e) (λ c w k. absurd (move-no-begin R m σ t (R.role (σ.node t)) c h w))

    module _ {c : ℕ} (w : R.role (σ.node t) ≡ opens c) where
      go-in : {k : Kind} → R.kind c ≡ k → MayEnter R m σ t c k → (k ≡ loop → R.inside y c ≡ true) → Further R P m t σ z y
      go-in q g f = by-edge (enter w (subst (MayEnter R m σ t c) (sym q) g) e)
          (λ d h k. subst (λ (n : ℕ). R.inside y n ≡ true) (one-construct w h) (f (sym q ∙ ap R.kind (one-construct w h) ∙ k)))

      go-past : {k : Kind} → R.kind c ≡ k → MayPass R m σ t c k → R.inside y c ≡ false → Further R P m t σ z y
      go-past q g out =
          let S = pass w (subst (MayPass R m σ t c) (sym q) g) refl in (
            _,
            alone_at W t-in S p,
            ready-next p S (λ d k i. inl (sym (W.same-scope w d) ∙ i)) r,
            elim (W.after-begin e w) [
              | inl h ↦ inr (inl (c, ap R.role (arrives S) ∙ W.opens-ended w, h, out))
              | inr h ↦ inl (arrives S ∙ sym (W.closes-end h))
            ],
          )

      -- from the begin of a sections an edge leads to the begin of a section, or to the end
      module _ (q : R.kind c ≡ sections) where
        past-sections : ((τ : State) → τ.node t ≡ R.end c → Follows R t τ z y) → Further R P m t σ z y
        past-sections f =
            let E = to_end W C t-in q σ w (subst P (W.opens-begin w) p) in
            let out : (d : ℕ) → R.inside (E.0.node t) d ≡ false = λ d.
            ap (λ (n : ℕ). R.inside n d) E.2 ∙ W.same-scope w d ∙ W.outermost w (sections-outermost q) d in
            (E.0, E.1, ready-later E.1 (λ d i. absurd (clash i (out d))) r, f E.0 E.2)

        not-before : {s : ℕ} → R.kind s ≡ section → (R.inside (σ.node t) s ≡ true) ⊎ (R.role (σ.node t) ≡ opens s) → ⊥
        not-before {s} k (inl i) = clash i (W.outermost w (sections-outermost q) s)
        not-before k (inr o) = bad (cc (one-construct w o))

        its-begin : {s : ℕ} → InSection R z s → R.role z ≡ opens s
        its-begin i = elim i.within [
          | inl h ↦ absurd (not-before i.is-section (W.enter e h))
          | inr (inl o) ↦ o
          | inr (inr o) ↦ absurd (not-before i.is-section (W.before-end e o))
        ]

        untaken : {s : ℕ} → LeftNext m σ t c s → Untaken m σ c (suc (σ.encounters t c)) s
        untaken {s} f k l = go (ℕ_discrete k t)
          where
            past : {i j : ℕ} → i ≤ j → i ≡ suc j → ⊥
            past a b = omega arith

            go : Dec (k ≡ t) → (σ.encounters k c ≤ suc (σ.encounters t c)) × (σ.encounters k c ≡ suc (σ.encounters t c) → σ.taken k c s ≡ false)
            go (yes z) =
                let a : σ.encounters k c ≤ σ.encounters t c = subst (λ (j : ℕ). σ.encounters j c ≤ σ.encounters t c) (sym z) (omega arith) in
                (omega arith, λ b. absurd (past a b))
            go (no n) = elim (f k l n) [ inl a ↦ (omega arith, λ b. absurd (past a b)) | inr a ↦ (omega (arith, a.0), λ b. a.1) ]

        to-section : {s : ℕ} → SectionOf R c s → InSection R z s → InSection R y s ⊎ (InSection R y s → ⊥) → Further R P m t σ z y
        to-section {s} o i (inl j) =
            let u : Untaken m σ c (suc (σ.encounters t c)) s = untaken (subst (λ (d : ℕ). LeftNext m σ t d s) o.of-sections (r.sections s j)) in
            by-edge (take w q o u (W.opens-begin (its-begin i))) (λ d v k. absurd (bad (cc (one-construct w v))))
        to-section {s} o i (inr n) = past-sections (λ τ h. inr (inr (
          s,
          ap R.role h ∙ W.opens-ended w ∙ ap closes (sym o.of-sections),
          i,
          n,
        )))

        at-sections : Further R P m t σ z y
        at-sections = elim (W.after-begin e w) [
          | inl i ↦ (let (s, (o, j)) = W.sections-section i q in to-section o j (in-or-not R y s))
          | inr v ↦ past-sections (λ τ h. inl (h ∙ sym (W.closes-end v)))
        ]

      at-begin : (k : Kind) → R.kind c ≡ k → Further R P m t σ z y
      at-begin single q = elim (first-or-not m σ t c) [
        | inl h ↦ go-in q h (λ j. absurd (bad (cc)))
        | inr h ↦ go-past q h (false-if (λ i. over (r.singles c q i h.0 h.1) h.2))
      ]
        where
          over : {i j : ℕ} → i ≤ j → j < i → ⊥
          over a b = omega arith
      at-begin master q = elim (ℕ_discrete t (R.thread c)) [
        | yes h ↦ go-in q h (λ j. absurd (bad (cc)))
        | no h ↦ go-past q h (false-if (λ i. h (r.masters c q i)))
      ]
      at-begin critical q = go-in q tt (λ j. absurd (bad (cc)))
      at-begin loop q = elim (truth (R.inside y c)) [ inl h ↦ go-in q tt (λ j. h) | inr h ↦ go-past q tt h ]
      at-begin ordered q = go-in q (r.clear (R.parent c) (W.ordered-begin w q)) (λ j. absurd (bad (cc)))
      at-begin sections q = at-sections q
      at-begin section q = go-in q tt (λ j. absurd (bad (cc)))
      at-begin parallel q = absurd (W.no-parallel w q)

  -- at the end of a sections t first takes what is left of it
  at-end : {σ : State} {z c : ℕ} → P (σ.node t) → R.edge (σ.node t) z ≡ true → Ready R m t σ y → R.role (σ.node t) ≡ closes c
      → Dec (R.kind c ≡ sections) → Further R P m t σ z y
  at-end {σ} p e r w (no n) = by_move p e r (subst (MayMove R m σ t) (sym w) (λ q. absurd (n q)))
  at-end {σ} {z} {c} p e r w (yes q) =
      let o = W.closes-begun w in
      let E = take_rest W C t-in q o σ (W.closes-end w) in
      let h : σ.node t ≡ E.0.node t = W.closes-end w ∙ sym E.2 in
      let clear : (d : ℕ) → R.inside (E.0.node t) d ≡ true → NoneOrdered R m E.0 t d = λ d i.
      absurd (clash i (ap (λ (n : ℕ). R.inside n d) E.2 ∙ (end-top W o (sections-outermost q) d).0)) in
      let A = by_move (subst P h p) (subst (λ (n : ℕ). R.edge n z ≡ true) h e) (ready-later (quietly E.1) clear r)
      (subst (MayMove R m E.0 t) (sym (ap R.role (sym h) ∙ w)) (λ k. E.3)) in
      (A.0, then (quietly E.1) A.1, A.2, A.3)

  from-here : {σ : State} {z : ℕ} → P (σ.node t) → R.edge (σ.node t) z ≡ true → Ready R m t σ y → (x : Role) → R.role (σ.node t) ≡ x → Further R P m t σ z y
  from-here {σ} p e r plain w = by_move p e r (subst (MayMove R m σ t) (sym w) tt)
  from-here {σ} p e r barrier w = absurd (free (σ.node t) p w)
  from-here p e r (opens c) w = at-begin p e r w (R.kind c) refl
  from-here p e r (closes c) w = at-end p e r w (Kind-discrete (R.kind c) sections)

  further : {σ : State} {x z : ℕ} → R.edge x z ≡ true → P x → Ready R m t σ y → Follows R t σ x y → Further R P m t σ z y
  further {σ} {x} {z} e p r (inl q) = from-here (subst P (sym q) p) (subst (λ (u : ℕ). R.edge u z ≡ true) (sym q) e) r (R.role (σ.node t)) refl
  further {σ} e p r (inr (inl h)) = (
    σ,
    stay,
    r,
    elim (W.leave e h.2) [ inl i ↦ inr (inl (h.0, h.1, i, h.3)) | inr w ↦ inl (W.closes-end h.1 ∙ sym (W.closes-end w)) ],
  )
  further {σ} e p r (inr (inr h)) = (
    σ,
    stay,
    r,
    elim (along-section W e h.2) [ inl i ↦ inr (inr (h.0, h.1, i, h.3)) | inr w ↦ inl (W.closes-end h.1 ∙ sym (W.closes-end w)) ],
  )

  pub walk : {x : ℕ} → Path (Edge R) P x y → P x → (σ : State) → Ready R m t σ y → Follows R t σ x y → Comes R P m t σ y
  walk (last e) p σ r a = let A = further e p r a in (A.0, A.1, arrived R t A.0 y A.3)
  walk (next e q w) p σ r a =
      let A = further e p r a in
      let B = walk w q A.0 A.2 A.3 in
      (B.0, then A.1 B.1, B.2)

  pub walk-rest : {x : ℕ} → Rest (Edge R) P x y → (σ : State) → Ready R m t σ y → σ.node t ≡ x → Comes R P m t σ y
  walk-rest (inl q) σ r h = (σ, stay, h ∙ q)
  walk-rest (inr w) σ r h = walk w.1 w.0 σ r (inl h)
