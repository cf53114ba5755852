-- Sections, and one thread alone in them: it walks inside one section, takes what is left at the end of the sections construct, and comes from the
-- begin to the end of it.
-- Assumes nothing.
use Rattle.std.specs.Prelude.{◌≡◌, refl, ◌⊎◌, ◌≢◌, ◌↔◌, Bool, true, ◌&&◌, ◌||◌, ℕ, zero, suc, ◌≤◌, ◌<◌}
use Rattle.std.proofs.Common.{ap, sym, ◌∙◌, subst, inl, inr, arith}
use Rattle.std.proofs.Math.Decide.{ℕ_discrete, dec_lt}
use Rattle.lists.specs.Truth.{bad, clash, truth, false-if, is, is_true, true-is}
use Rattle.lists.specs.Means.{both_of, either-of}
use Rattle.lists.specs.Range.{any, any_at, at-any}
use Rattle.chart.specs.Region.{Role, plain, barrier, opens, closes, Kind, Kind-discrete, critical, sections, section, Outermost, Region}
use Rattle.chart.specs.InSection.{SectionOf, InSection}
use Rattle.chart.specs.WellFormed.{WellFormed}
use Rattle.theory_paths.specs.Path.{Path, last, next, Edge, Open}
use Rattle.theory_paths.specs.Connected.{Connected}
use Rattle.theory_paths.specs.PathLaws.{append, carry, first_edge}
use Rattle.theory_team.specs.State.{State, moved, left, took}
use Rattle.theory_team.specs.Step.{Taken, Untaken, AllTaken, MayEnter, MayPass, MayMove, ThreadStep, move, enter, pass, take, take_next}
use Rattle.theory_team.proofs.Laws.{update-at, update-off, one-construct, arrives, took-at}
use Rattle.theory_answers.specs.Answer.{in_section}
use Rattle.theory_answers.proofs.AnswerLaws.{in-section-of}
use Rattle.theory_exact.specs.Constructs.{inside-open, exit}
use Rattle.theory_exact.specs.Nesting.{sections-outermost}
use Rattle.theory_exact.specs.Invariant.{rises}
use Rattle.theory_exact.specs.Solo.{Solo, Never, stay, then, alone, quietly}

-- Whether a section is taken in the k-th instance of c is decided.
pub taken-or-not : (m : ℕ) (σ : State) (c k x : ℕ) → Taken m σ c k x ⊎ Untaken m σ c k x
taken-or-not m σ c k x = elim (truth (any m test)) [
  | inl h ↦ inl (let (j, l, g) = any_at m test h in (j, l, (means j).0 g))
  | inr h ↦ inr (λ j l. (
    at_most (λ z. clash (at-any m test j l ((means j).1 (inl z))) h),
    λ q. false-if (λ g. clash (at-any m test j l ((means j).1 (inr (q, g)))) h),
  ))
]
  where
    test : ℕ → Bool
    test j = is (dec_lt k (σ.encounters j c)) || (is (ℕ_discrete (σ.encounters j c) k) && σ.taken j c x)

    means : (j : ℕ) → (test j ≡ true) ↔ ((k < σ.encounters j c) ⊎ ((σ.encounters j c ≡ k) × (σ.taken j c x ≡ true)))
    means j = either-of (is_true (dec_lt k (σ.encounters j c)), true-is (dec_lt k (σ.encounters j c)))
        (both_of (is_true (ℕ_discrete (σ.encounters j c) k), true-is (ℕ_discrete (σ.encounters j c) k)) ((λ h. h), λ h. h))

    at_most : {n : ℕ} → ¬ (k < n) → n ≤ k
    at_most n = omega arith

-- Whether y is in section s is decided.
pub in-or-not : (R : Region) (y s : ℕ) → InSection R y s ⊎ (InSection R y s → ⊥)
in-or-not R y s = elim (truth (in_section R y s)) [ inl h ↦ inl ((in-section-of R y s).0 h) | inr h ↦ inr (λ i. clash ((in-section-of R y s).1 i) h) ]

opens? : (r : Role) (c : ℕ) → Dec (r ≡ opens c)
opens? plain c = no (λ q. bad (cc))
opens? barrier c = no (λ q. bad (cc))
opens? (closes d) c = no (λ q. bad (cc))
opens? (opens d) c = elim (ℕ_discrete d c) [ yes q ↦ yes (ap opens q) | no n ↦ no (λ q. n (cc)) ]

section? : (R : Region) (c x : ℕ) → Dec (SectionOf R c x)
section? R c x = go (opens? (R.role (R.begin x)) x) (Kind-discrete (R.kind x) section) (ℕ_discrete (R.parent x) c)
  where
    go : Dec (R.role (R.begin x) ≡ opens x) → Dec (R.kind x ≡ section) → Dec (R.parent x ≡ c) → Dec (SectionOf R c x)
    go (yes o) (yes k) (yes q) = yes (record { begun = o; is-section = k; of-sections = q })
    go (yes o) (yes k) (no n) = no (λ p. n p.of-sections)
    go (yes o) (no n) d = no (λ p. n p.is-section)
    go (no n) d e = no (λ p. n p.begun)

-- what holds below n and at n holds below n and one
one_more : {n : ℕ} (Q : ℕ → Type 0) → ((x : ℕ) → x < n → Q x) → Q n → (x : ℕ) → x < suc n → Q x
one_more {n} Q f q x l = elim (ℕ_discrete x n) [ yes z ↦ subst Q (sym z) q | no z ↦ f x (omega arith) ]

none_below : {x : ℕ} → x < 0 → ⊥
none_below l = omega arith

left_other : (σ : State) (t d v c x : ℕ) → c ≢ d → (left σ t d v).taken t c x ≡ σ.taken t c x
unfolding left
left_other σ t d v c x n = rw (update-at, update-off)

moved-taken : (σ : State) (t v c x : ℕ) → (moved σ t v).taken t c x ≡ σ.taken t c x
unfolding moved
moved-taken σ t v c x = refl

module _ {R : Region} (W : WellFormed R) where
  -- what stands in a section: no barrier, begins of criticals and the section's own, no end of a sections
  pub section-open : {x s : ℕ} → InSection R x s → Open R x
  section-open i = elim i.within [ inl h ↦ inside-open W h | inr (inl o) ↦ (λ q. bad (cc)) | inr (inr o) ↦ (λ q. bad (cc)) ]

  section-opens : {x s c : ℕ} → InSection R x s → R.role x ≡ opens c → (R.kind c ≡ critical) ⊎ (R.kind c ≡ section)
  section-opens {c = c} i w = elim i.within [
    | inl h ↦ inl (W.section-critical w h i.is-section)
    | inr (inl o) ↦ inr (ap R.kind (one-construct w o) ∙ i.is-section)
    | inr (inr o) ↦ absurd (bad (cc))
  ]

  section-closes : {x s c : ℕ} → InSection R x s → R.role x ≡ closes c → R.kind c ≢ sections
  section-closes {x} {s} {c} i w q = elim i.within [
    | inl h ↦ (let b = W.closes-begun w in
        bad (cc (W.section-critical b (sym (W.same-scope b s) ∙ ap (λ (n : ℕ). R.inside n s) (sym (W.closes-end w)) ∙ h) i.is-section)))
    | inr (inl o) ↦ bad (cc)
    | inr (inr o) ↦ bad (cc i.is-section)
  ]

  -- an edge from a section leads on in it, or to the end of its sections
  pub along-section : {x z s : ℕ} → R.edge x z ≡ true → InSection R x s → InSection R z s ⊎ (R.role z ≡ closes (R.parent s))
  along-section {z = z} {s} e i = elim i.within [
    | inl h ↦ inl (here (W.leave e h))
    | inr (inl o) ↦ inl (here (W.after-begin e o))
    | inr (inr o) ↦ inr (W.section-out e o i.is-section)
  ]
    where
      here : (R.inside z s ≡ true) ⊎ (R.role z ≡ closes s) → InSection R z s
      here (inl h) = record { is-section = i.is-section; within = inl h }
      here (inr o) = record { is-section = i.is-section; within = inr (inr o) }

  -- from a section's begin through it to the end of the sections
  pub section-through : Connected R → {s : ℕ} → R.role (R.begin s) ≡ opens s → R.kind s ≡ section
      → Path (Edge R) (λ x. InSection R x s) (R.begin s) (R.end (R.parent s))
  section-through C {s} o k =
      let e = W.opens-ended o in
      let out = first_edge (C.end-to-finish e) in
      append
      (carry (λ x y e. e) (λ z h. record { is-section = k; within = inl h.1 })
      (exit W (W.barrier-outside W.finish-barrier s) (λ q. bad (cc W.finish-barrier)) (C.begin-to-finish o) (inr o)).0)
      (record { is-section = k; within = inr (inr e) })
      (last (subst (λ (n : ℕ). R.edge (R.end s) n ≡ true) (W.closes-end (W.section-out out.1 e k)) out.1))

module _ {R : Region} (W : WellFormed R) {m t : ℕ} (t-in : t < m) where
  -- Thread t comes to z, leaves the begin of no outermost construct and takes nothing.
  abbrev pub Quietly : State → ℕ → Type 0
  Quietly σ z = (τ : State) × Solo R Never m t σ τ × (τ.node t ≡ z) × ((c x : ℕ) → Outermost (R.kind c) → τ.taken t c x ≡ σ.taken t c x)

  module _ {s : ℕ} {σ : State} {z : ℕ} (i : InSection R (σ.node t) s) (e : R.edge (σ.node t) z ≡ true) where
    move-on : MayMove R m σ t (R.role (σ.node t)) → ((c : ℕ) → R.role (σ.node t) ≢ opens c) → Quietly σ z
    move-on h n =
        let S : ThreadStep R m σ t z (moved σ t z) = move h e in
        (moved σ t z, alone t-in S (λ c u w. absurd (n c w)), arrives S, λ c x u. moved-taken σ t z c x)

    go-in : {d : ℕ} → R.role (σ.node t) ≡ opens d → (k : Kind) → R.kind d ≡ k → MayEnter R m σ t d k → ¬ (Outermost k) → Quietly σ z
    go-in {d} w k q g n =
        let S : ThreadStep R m σ t z (left σ t d z) = enter w (subst (MayEnter R m σ t d) (sym q) g) e in
        let other : (c : ℕ) → Outermost (R.kind c) → c ≢ d = λ c u p. n (subst Outermost (ap R.kind p ∙ q) u) in
        (left σ t d z, alone t-in S (λ c u v. absurd (other c u (one-construct v w))), arrives S, λ c x u. left_other σ t d z c x (other c u))

    one-edge : (r : Role) → R.role (σ.node t) ≡ r → Quietly σ z
    one-edge plain w = move-on (subst (MayMove R m σ t) (sym w) tt) (λ c q. bad (cc))
    one-edge barrier w = absurd (section-open W i w)
    one-edge (closes c) w = move-on (subst (MayMove R m σ t) (sym w) (λ q. absurd (section-closes W i w q))) (λ d q. bad (cc))
    one-edge (opens d) w = elim (section-opens W i w) [ inl q ↦ go-in w critical q tt (λ u. u) | inr q ↦ go-in w section q tt (λ u. u) ]

  -- inside one section
  pub walk_inside : {s x y : ℕ} → Path (Edge R) (λ z. InSection R z s) x y → InSection R x s → (σ : State) → σ.node t ≡ x → Quietly σ y
  walk_inside {s} {y = y} (last e) i σ h =
      one-edge (subst (λ (n : ℕ). InSection R n s) (sym h) i) (subst (λ (n : ℕ). R.edge n y ≡ true) (sym h) e) (R.role (σ.node t)) refl
  walk_inside {s} (next {z = z} e p w) i σ h =
      let A = one-edge (subst (λ (n : ℕ). InSection R n s) (sym h) i) (subst (λ (n : ℕ). R.edge n z ≡ true) (sym h) e) (R.role (σ.node t)) refl in
      let B = walk_inside w p A.0 A.2 in
      (B.0, then A.1 B.1, B.2, λ c x u. B.3 c x u ∙ A.3 c x u)

  -- what is taken stays taken while t stays in its instance
  still-taken : {σ τ : State} {c k x : ℕ} → Outermost (R.kind c) → Solo R Never m t σ τ → Taken m σ c k x → Taken m τ c k x
  still-taken {σ} {τ} {c} {k} {x} u A (j, l, h) = (j, l, go (ℕ_discrete j t) h)
    where
      same : τ.encounters t c ≡ σ.encounters t c
      same = elim (A.leaves c u) [ inl q ↦ q | inr z ↦ absurd z ]

      keeps : σ.taken t c x ≡ true → τ.taken t c x ≡ true
      keeps h = elim (A.keeps c x u h) [ inl q ↦ q | inr z ↦ absurd z ]

      go : Dec (j ≡ t) → (k < σ.encounters j c) ⊎ ((σ.encounters j c ≡ k) × (σ.taken j c x ≡ true))
          → (k < τ.encounters j c) ⊎ ((τ.encounters j c ≡ k) × (τ.taken j c x ≡ true))
      go (no n) (inl h) = inl (omega (arith, A.count_same j n c))
      go (no n) (inr h) = inr (A.count_same j n c ∙ h.0, A.taken-same j n c x ∙ h.1)
      go (yes q) h = subst (λ (i : ℕ). (k < τ.encounters i c) ⊎ ((τ.encounters i c ≡ k) × (τ.taken i c x ≡ true))) (sym q)
          (elim (subst (λ (i : ℕ). (k < σ.encounters i c) ⊎ ((σ.encounters i c ≡ k) × (σ.taken i c x ≡ true))) q h) [
            | inl h ↦ inl (omega (arith, same))
            | inr h ↦ inr (same ∙ h.0, keeps h.1)
          ])

module _ {R : Region} (W : WellFormed R) (C : Connected R) {m t : ℕ} (t-in : t < m) where
  -- from a section's begin, to which t has just come, through the section to the end of the sections
  through-section : {c x : ℕ} → SectionOf R c x → (σ : State) → σ.node t ≡ R.begin x → Quietly W t-in σ (R.end c)
  through-section {c} {x} p σ h =
      walk_inside W t-in (subst (λ (n : ℕ). Path (Edge R) (λ z. InSection R z x) (R.begin x) (R.end n)) p.of-sections (section-through W C p.begun p.is-section))
      (record { is-section = p.is-section; within = inr (inl p.begun) }) σ h

  module _ {c : ℕ} (q : R.kind c ≡ sections) where
    -- at the end of c one section more
    take-one : (σ : State) → R.role (σ.node t) ≡ closes c → {x : ℕ} → SectionOf R c x → Untaken m σ c (σ.encounters t c) x
        → (τ : State) × Solo R Never m t σ τ × (τ.node t ≡ R.end c) × (τ.taken t c x ≡ true)
    take-one σ w {x} p u =
        let ρ : State = took (moved σ t (R.begin x)) t c x in
        let S : ThreadStep R m σ t (R.begin x) ρ = take_next w q p u refl in
        let B : Quietly W t-in ρ (R.end c) = through-section p ρ (arrives S) in
        (B.0, then (alone t-in S (λ d v y. bad (cc))) B.1, B.2, B.3 c x (sections-outermost q) ∙ took-at (moved σ t (R.begin x)) t c x)

    -- all that is left of the sections below n
    sweep : R.role (R.begin c) ≡ opens c → (σ : State) → σ.node t ≡ R.end c → (n : ℕ)
        → (τ : State) × Solo R Never m t σ τ × (τ.node t ≡ R.end c) × ((x : ℕ) → x < n → SectionOf R c x → Taken m τ c (τ.encounters t c) x)
    sweep o σ h zero = (σ, stay, h, λ x l. absurd (none_below l))
    sweep o σ h (suc n) =
        let S = sweep o σ h n in
        elim (section? R c n) [
          | no p ↦ (S.0, S.1, S.2, one_more (λ x. SectionOf R c x → Taken m S.0 c (S.0.encounters t c) x) S.3 (λ z. absurd (p z)))
          | yes p ↦ elim (taken-or-not m S.0 c (S.0.encounters t c) n) [
            | inl g ↦ (S.0, S.1, S.2, one_more (λ x. SectionOf R c x → Taken m S.0 c (S.0.encounters t c) x) S.3 (λ z. g))
            | inr u ↦ (
                let D = take-one S.0 (ap R.role S.2 ∙ W.opens-ended o) p u in (
                  D.0,
                  then S.1 D.1,
                  D.2,
                  one_more (λ x. SectionOf R c x → Taken m D.0 c (D.0.encounters t c) x)
                      (λ x l z. subst (λ (k : ℕ). Taken m D.0 c k x) (same D.1) (still-taken W t-in (sections-outermost q) D.1 (S.3 x l z)))
                      (λ z. (t, t-in, inr (refl, D.3))),
                )
                )
          ]
        ]
      where
        same : {τ ρ : State} → Solo R Never m t τ ρ → τ.encounters t c ≡ ρ.encounters t c
        same A = elim (A.leaves c (sections-outermost q)) [ inl e ↦ sym e | inr z ↦ absurd z ]

    -- at the end of c, t takes all that is left
    pub take_rest : R.role (R.begin c) ≡ opens c → (σ : State) → σ.node t ≡ R.end c
        → (τ : State) × Solo R Never m t σ τ × (τ.node t ≡ R.end c) × AllTaken R m τ c (τ.encounters t c)
    take_rest o σ h = let S = sweep o σ h R.constructs in (S.0, S.1, S.2, λ x p. S.3 x (W.opens-below p.begun) p)

    some_below : (σ : State) (k n : ℕ) → ((x : ℕ) × SectionOf R c x × Untaken m σ c k x) ⊎ ((x : ℕ) → x < n → SectionOf R c x → Taken m σ c k x)
    some_below σ k zero = inr (λ x l. absurd (none_below l))
    some_below σ k (suc n) = elim (some_below σ k n) [
      | inl h ↦ inl h
      | inr f ↦ elim (section? R c n) [
        | no p ↦ inr (one_more (λ x. SectionOf R c x → Taken m σ c k x) f (λ z. absurd (p z)))
        | yes p ↦ elim (taken-or-not m σ c k n) [
          | inl g ↦ inr (one_more (λ x. SectionOf R c x → Taken m σ c k x) f (λ z. g))
          | inr u ↦ inl (n, p, u)
        ]
      ]
    ]

    some_left : (σ : State) (k : ℕ) → ((x : ℕ) × SectionOf R c x × Untaken m σ c k x) ⊎ AllTaken R m σ c k
    some_left σ k = elim (some_below σ k R.constructs) [ inl h ↦ inl h | inr f ↦ inr (λ x p. f x (W.opens-below p.begun) p) ]

    -- from the begin of c into its next instance and to its end: through a section that is left there, or straight
    pub to_end : (σ : State) → R.role (σ.node t) ≡ opens c → {P : ℕ → Type 0} → P (R.begin c)
        → (τ : State) × Solo R P m t σ τ × (τ.node t ≡ R.end c) × (σ.encounters t c < τ.encounters t c)
    to_end σ w {P} p = elim (some_left σ (suc (σ.encounters t c))) [
      | inl (x, s, u) ↦ (
          let ρ : State = took (left σ t c (R.begin x)) t c x in
          let S : ThreadStep R m σ t (R.begin x) ρ = take w q s u refl in
          let B : Quietly W t-in ρ (R.end c) = through-section s ρ (arrives S) in
          (B.0, then (alone t-in S left-only) (quietly B.1), B.2, omega (arith, rises S w, B.1.grow c))
          )
      | inr a ↦ (
          let ρ : State = left σ t c (R.end c) in
          let S : ThreadStep R m σ t (R.end c) ρ = pass w (subst (MayPass R m σ t c) (sym q) a) refl in
          (ρ, alone t-in S left-only, arrives S, omega (arith, rises S w))
          )
    ]
      where
        left-only : (d : ℕ) → Outermost (R.kind d) → R.role (σ.node t) ≡ opens d → P (R.begin d)
        left-only d u v = subst (λ (n : ℕ). P (R.begin n)) (one-construct w v) p
