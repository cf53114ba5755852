-- How the first thread of a rendezvous goes, and how the second one does: straight along a path, round and round a construct that returns, or into
-- two sections of one sections construct.
-- Assumes nothing.
use Rattle.std.specs.Prelude.{◌≡◌, refl, ◌⊎◌, ◌≢◌, true, false, ℕ, suc, ◌≤◌, ◌<◌}
use Rattle.std.proofs.Common.{ap, sym, ◌∙◌, subst, inl, inr, arith}
use Rattle.std.proofs.Math.Decide.{ℕ_discrete}
use Rattle.lists.specs.Truth.{bad, clash}
use Rattle.chart.specs.Region.{opens, sections, Outermost, Region}
use Rattle.chart.specs.InOrdered.{InOrdered}
use Rattle.chart.specs.InSection.{SectionOf, InSection}
use Rattle.chart.specs.WellFormed.{WellFormed}
use Rattle.chart.proofs.Sections.{sections-of, inside-sections}
use Rattle.theory_paths.specs.Path.{Path, Edge, Open, BarrierFree}
use Rattle.theory_paths.specs.Doors.{Both, Not}
use Rattle.theory_paths.specs.Connected.{Connected}
use Rattle.theory_paths.specs.PathLaws.{Rest}
use Rattle.theory_team.specs.State.{State, left, took}
use Rattle.theory_team.specs.Step.{First, Untaken, ThreadStep, take}
use Rattle.theory_team.proofs.Laws.{update-at, arrives, took-off}
use Rattle.theory_answers.specs.Unexcluded.{Returns}
use Rattle.theory_exact.specs.Nesting.{single-outermost, sections-outermost, do-outermost, Exclusive, exclusive-outermost, exclusive-or-do, is-do}
use Rattle.theory_exact.specs.Invariant.{rises}
use Rattle.theory_exact.specs.Solo.{Solo, Comes, stay, then, alone_at, loosen, quietly}
use Rattle.theory_exact.specs.Sections.{Quietly, walk_inside}
use Rattle.theory_exact.specs.Walk.{LeftNext, ready-outside, walk, walk-rest}
use Rattle.theory_exact.specs.Rounds.{come-first}
use Rattle.theory_exact.specs.Rendezvous.{Chosen, FirstLeg, Halfway, SecondLeg}

-- P holds of the begins of outermost constructs that p has left.
abbrev pub Leaves : Region → (ℕ → Type 0) → ℕ → State → Type 0
Leaves R P p σ = (c : ℕ) → Outermost (R.kind c) → (σ.encounters p c ≡ 0) ⊎ P (R.begin c)

-- p is in the first instance of c and has taken section x there, and no other.
abbrev pub TookOne : ℕ → ℕ → ℕ → State → Type 0
TookOne p c x σ = (σ.encounters p c ≡ 1) × ((y : ℕ) → y ≢ x → σ.taken p c y ≡ false)

-- p has left the begin of no single and of no sections that encloses b, and is in no ordered of a do that encloses b.
abbrev pub NotLeft : Region → (ℕ → Type 0) → ℕ → Type 0
NotLeft R P b = (c : ℕ) → Exclusive (R.kind c) → R.inside b c ≡ true → P (R.begin c) → ⊥

abbrev pub NoDo : Region → ℕ → ℕ → Type 0
NoDo R a b = (d : ℕ) → R.inside b d ≡ true → InOrdered R a d → ⊥

took-only : (σ : State) (t c v x y : ℕ) → y ≢ x → (took (left σ t c v) t c x).taken t c y ≡ false
unfolding left
took-only σ t c v x y n = took-off (left σ t c v) t c x t c y (inr (inr n)) ∙ rw (update-at, update-at)

module _ {R : Region} (W : WellFormed R) (C : Connected R) {m a b : ℕ} (X : Chosen R m a b) where
  -- p walks along a path
  pub first_walk : {P : ℕ → Type 0} → ((z : ℕ) → P z → Open R z) → {v : ℕ} → Rest (Edge R) P v a → FirstLeg X (Leaves R P X.p) v
  first_walk free w σ F h =
      let A = walk-rest W C X.p-in free w σ (record {
        masters = X.master-p;
        singles = λ c k i j l. omega (arith, F.none j c, F.none X.p c);
        dos = λ d i j l n o. absurd (F.outside j l o.construct o.within);
        sections = λ s i j l n. inl (omega (arith, F.none j (R.parent s), F.none X.p (R.parent s)));
        clear = λ d i. absurd (F.outside X.p X.p-in d i);
      }) h in (
        (A.0, loosen free A.1, A.2),
        λ c u. elim (A.1.leaves c u) [ inl e ↦ inl (e ∙ F.none X.p c) | inr e ↦ inr e ],
      )

  -- p comes to the begin of c for the first time and takes section x
  module _ {c x : ℕ} (k : R.kind c ≡ sections) (o : R.role (R.begin c) ≡ opens c) (S : SectionOf R c x) where
    pub first-section : {v : ℕ} → Rest (Edge R) (Both (Open R) (Not (R.begin c))) v (R.begin c)
        → (R.begin x ≡ a) ⊎ Path (Edge R) (λ z. InSection R z x) (R.begin x) a → FirstLeg X (TookOne X.p c x) v
    first-section w inside σ F h = (
      (B.0, then (loosen (λ z e. e.0) A.1) (then (alone_at W X.p-in T (λ z. bad (cc at))) (quietly B.1)), B.2),
      (
        elim (B.1.leaves c (sections-outermost k)) [ inl e ↦ e ∙ rises T at ∙ ap suc (zero X.p (ℕ_discrete X.p X.p)) | inr z ↦ absurd z ],
        λ y n. B.3 c y (sections-outermost k) ∙ took-only A.0 X.p c (R.begin x) x y n,
      ),
    )
      where
        A : Comes R (Both (Open R) (Not (R.begin c))) m X.p σ (R.begin c)
        A = walk-rest W C X.p-in (λ z e. e.0) w σ
            (ready-outside W (λ d i. clash i (W.outermost o (sections-outermost k) d)) (λ d i. absurd (F.outside X.p X.p-in d i))) h

        at : R.role (A.0.node X.p) ≡ opens c
        at = ap R.role A.2 ∙ o

        zero : (j : ℕ) → Dec (j ≡ X.p) → A.0.encounters j c ≡ 0
        zero j (yes q) = ap (λ (i : ℕ). A.0.encounters i c) q
            ∙ elim (A.1.leaves c (sections-outermost k)) [ inl e ↦ e ∙ F.none X.p c | inr e ↦ absurd (e.1 refl) ]
        zero j (no n) = A.1.count_same j n c ∙ F.none j c

        untaken : Untaken m A.0 c (suc (A.0.encounters X.p c)) x
        untaken j l = let z = zero j (ℕ_discrete j X.p) in (omega (arith, z), λ e. absurd (none z e))
          where
            none : {i n : ℕ} → i ≡ 0 → i ≡ suc n → ⊥
            none z e = omega arith

        ρ : State
        ρ = took (left A.0 X.p c (R.begin x)) X.p c x

        T : ThreadStep R m A.0 X.p (R.begin x) ρ
        T = take at k S untaken refl

        B : Quietly W X.p-in ρ a
        B = elim inside [
          | inl e ↦ (ρ, stay, arrives T ∙ e, λ d y u. refl)
          | inr p ↦ walk_inside W X.p-in p (record { is-section = S.is-section; within = inr (inl S.begun) }) ρ (arrives T)
        ]

  module _ {Q : State → Type 0} where
    q-outside : {v : ℕ} {σ : State} → Halfway X Q v σ → (c : ℕ) → R.inside (σ.node X.q) c ≡ true → ⊥
    q-outside H c i = H.outside X.q X.q-in (λ z. X.differ (sym z)) c i

  -- q walks along a path
  pub second-direct : (P : ℕ → Type 0) → NotLeft R P b → NoDo R a b → SecondLeg X (Leaves R P X.p) b
  second-direct P not_left no-do v w σ H = walk-rest W C X.q-in (λ z h. h) w σ (record {
    masters = X.master-q;
    singles = λ c k i j l. least c (subst Exclusive (sym k) tt) i j (ℕ_discrete j X.p);
    dos = λ d i j l n o. absurd (blocked d i j l o (ℕ_discrete j X.p));
    sections = λ s i j l n. inl (least (R.parent s) (subst Exclusive (sym (sections-of W i)) tt) (inside-sections W i) j (ℕ_discrete j X.p));
    clear = λ d i. absurd (q-outside H d i);
  }) H.at-v
    where
      least : (c : ℕ) → Exclusive (R.kind c) → R.inside b c ≡ true → (j : ℕ) → Dec (j ≡ X.p) → σ.encounters j c ≤ σ.encounters X.q c
      least c k i j (yes z) = elim (H.known c (exclusive-outermost (R.kind c) k)) [
        | inl n ↦ subst (λ (u : ℕ). σ.encounters u c ≤ σ.encounters X.q c) (sym z) (omega (arith, n))
        | inr h ↦ absurd (not_left c k i h)
      ]
      least c k i j (no z) = omega (arith, H.none j z c)

      blocked : (d : ℕ) → R.inside b d ≡ true → (j : ℕ) → j < m → InOrdered R (σ.node j) d → Dec (j ≡ X.p) → ⊥
      blocked d i j l o (yes z) = no-do d i (subst (λ (x : ℕ). InOrdered R x d) (ap σ.node z ∙ H.at_a) o)
      blocked d i j l o (no z) = H.outside j l z o.construct o.within

  -- where b is in an outermost construct that returns: rounds of it, until no thread has left its begin more often
  pub second-rounds : {Q : State → Type 0} {c : ℕ} → Outermost (R.kind c) → R.inside b c ≡ true → Returns R c → BarrierFree R (R.begin c) b
      → SecondLeg X Q (R.begin c)
  second-rounds {c = c} u i ret w v rest σ H = (D.0, then A.1 (then B.1 D.1), D.2)
    where
      o : R.role (R.begin c) ≡ opens c
      o = W.inside-begun i

      begin-outside : (d : ℕ) → R.inside (R.begin c) d ≡ true → ⊥
      begin-outside d h = clash h (W.outermost o u d)

      A : Comes R (Open R) m X.q σ (R.begin c)
      A = walk-rest W C X.q-in (λ z h. h) rest σ (ready-outside W begin-outside (λ d h. absurd (q-outside H d h))) H.at-v

      B : (ρ : State) × Solo R (Open R) m X.q A.0 ρ × (ρ.node X.q ≡ R.begin c) × First m ρ X.q c
      B = come-first W C X.q-in o u ret A.0 A.2

      -- no thread has left the begin of an outermost construct that encloses b more often
      leads : {d : ℕ} → R.inside b d ≡ true → Outermost (R.kind d) → First m B.0 X.q d
      leads j k = subst (First m B.0 X.q) (W.one-outermost i j u k) B.3

      D : Comes R (Open R) m X.q B.0 b
      D = walk W C X.q-in (λ z h. h) w (λ z. bad (cc o)) B.0 (record {
        masters = X.master-q;
        singles = λ d k j. leads j (single-outermost k);
        dos = λ d j k l n x. leads j (do-outermost W x) k l;
        sections = λ s j k l n. inl (leads (inside-sections W j) (sections-outermost (sections-of W j)) k l);
        clear = λ d j. absurd (begin-outside d (subst (λ (x : ℕ). R.inside x d ≡ true) B.2 j));
      }) (inl B.2)

  -- where p is in section x of c in its first instance, and b is in another: q takes that one in the same instance
  pub second-section : {c x : ℕ} → R.kind c ≡ sections → R.inside b c ≡ true → (InSection R b x → ⊥) → SecondLeg X (TookOne X.p c x) b
  second-section {c} {x} k i n v w σ H = walk-rest W C X.q-in (λ z h. h) w σ (record {
    masters = X.master-q;
    singles = λ d q j. absurd (bad (cc (W.one-outermost j i (single-outermost q) (sections-outermost k))));
    dos = λ d j f l e o. absurd (exclusive-or-do W (subst Exclusive (sym k) tt) i (is-do W o) j);
    sections = λ s j. subst (λ (d : ℕ). LeftNext m σ X.q d s)
        (W.one-outermost i (inside-sections W j) (sections-outermost k) (sections-outermost (sections-of W j)))
        (λ t l e. left_there s j t (ℕ_discrete t X.p));
    clear = λ d j. absurd (q-outside H d j);
  }) H.at-v
    where
      left_there : (s : ℕ) → InSection R b s → (t : ℕ) → Dec (t ≡ X.p)
          → (σ.encounters t c ≤ σ.encounters X.q c) ⊎ ((σ.encounters t c ≡ suc (σ.encounters X.q c)) × (σ.taken t c s ≡ false))
      left_there s j t (yes z) = inr (
        ap (λ (u : ℕ). σ.encounters u c) z ∙ H.known.0 ∙ ap suc (sym (H.none X.q (λ e. X.differ (sym e)) c)),
        ap (λ (u : ℕ). σ.taken u c s) z ∙ H.known.1 s (λ e. n (subst (InSection R b) e j)),
      )
      left_there s j t (no z) = inl (omega (arith, H.none t z c))
