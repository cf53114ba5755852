-- Completeness: two nodes that no rule excludes are concurrent in every team that has two threads for them; and those that none but "no common end"
-- excludes are met there, by a run that need not finish.
-- Assumes nothing.
use Rattle.std.specs.Prelude.{◌≡◌, refl, ◌⊎◌, ◌≢◌, true, ℕ, ◌<◌}
use Rattle.std.proofs.Common.{ap, ◌∙◌, subst, inl, inr}
use Rattle.std.proofs.Math.Path.{sym}
use Rattle.std.proofs.Math.Decide.{ℕ_discrete}
use Rattle.lists.specs.Truth.{bad}
use Rattle.chart.specs.Region.{barrier, Kind, single, master, critical, loop, ordered, sections, section, parallel, Outermost, Region}
use Rattle.chart.specs.InOrdered.{InOrdered}
use Rattle.chart.specs.InSection.{SectionOf, InSection}
use Rattle.chart.specs.WellFormed.{WellFormed}
use Rattle.theory_paths.specs.Path.{Path, last, Edge, Open, BarrierFree}
use Rattle.theory_paths.specs.Doors.{Both, Not, avoid}
use Rattle.theory_paths.specs.Connected.{Connected}
use Rattle.theory_paths.specs.PathLaws.{append as follow, carry, Rest, first_edge, last-edge}
use Rattle.theory_paths.specs.Phases.{backward}
use Rattle.theory_team.specs.State.{State, initial}
use Rattle.theory_team.specs.Step.{NoneOrdered}
use Rattle.theory_team.specs.Run.{Run, done, ConcurrentIn}
use Rattle.theory_team.specs.Meets.{Meets}
use Rattle.theory_answers.specs.Unexcluded.{Returns, Unexcluded}
use Rattle.theory_exact.specs.Barred.{Unbarred, unexcluded-unbarred}
use Rattle.theory_exact.specs.Constructs.{AfterBegin, from-barrier, part}
use Rattle.theory_exact.specs.Nesting.{Within, Without, in-ordered, single-outermost, sections-outermost, within, inside-do, do-outermost, Exclusive, exclusive-outermost, WithinExclusive, WithoutExclusive, within-exclusive, exclusive-or-ordered}
use Rattle.theory_exact.specs.Hops.{EndsAt}
use Rattle.theory_exact.specs.Runs.{append, append-state}
use Rattle.theory_exact.specs.Invariant.{Invariant, invariant-first, invariant}
use Rattle.theory_exact.specs.Solo.{Comes, settled}
use Rattle.theory_exact.specs.Sections.{in-or-not}
use Rattle.theory_exact.specs.Travel.{AllAt, AllCome, Bound, run-then, bound-there, come, all_come, travel}
use Rattle.theory_exact.specs.Rendezvous.{Chosen, Rendezvous, rendezvous}
use Rattle.theory_exact.specs.Legs.{NotLeft, NoDo, first_walk, first-section, second-direct, second-rounds, second-section}

-- Two nodes that no rule excludes but perhaps "no common end", and a node that each goes on to.
record Ahead (R : Region) (a b : ℕ) : Type 0 where
  unbarred : Unbarred R a b
  end-a : (e : ℕ) × BarrierFree R a e
  end-b : (e : ℕ) × BarrierFree R b e

-- Their common start.
abbrev start : {R : Region} {a b : ℕ} → Ahead R a b → ℕ
start D = D.unbarred.start.0

abbrev start-barrier : {R : Region} {a b : ℕ} (D : Ahead R a b) → R.role (start D) ≡ barrier
start-barrier D = D.unbarred.start.1.0.is-barrier

abbrev start-a : {R : Region} {a b : ℕ} (D : Ahead R a b) → BarrierFree R (start D) a
start-a D = D.unbarred.start.1.0.path

abbrev start-b : {R : Region} {a b : ℕ} (D : Ahead R a b) → BarrierFree R (start D) b
start-b D = D.unbarred.start.1.1.path

-- the same for b and a
abbrev swap : {R : Region} {a b : ℕ} → Ahead R a b → Ahead R b a
swap D = let U = D.unbarred in record {
  unbarred = record {
    start = (U.start.0, (U.start.1.1, U.start.1.0));
    masters = λ c d k l i j q. U.masters d c l k j i (sym q);
    singles = λ c k i j. U.singles c k j i;
    ordereds = λ d x y. U.ordereds d y x;
    sections = λ s x y. U.sections s y x;
  };
  end-a = D.end-b;
  end-b = D.end-a;
}

abbrev swap-chosen : {R : Region} {m a b : ℕ} → Chosen R m a b → Chosen R m b a
swap-chosen X = record { p = X.q; q = X.p; p-in = X.q-in; q-in = X.p-in; differ = λ z. X.differ (sym z); master-p = X.master-q; master-q = X.master-p }

swap-rendezvous : {R : Region} {m a b : ℕ} {X : Chosen R m a b} {σ : State} {e : ℕ} → Rendezvous (swap-chosen X) σ e → Rendezvous X σ e
swap-rendezvous M = record { state = M.state; run = M.run; at_a = M.at_b; at_b = M.at_a; others = λ k l i j. M.others k l j i }

-- what is left of a path to x, and then a path from x to e
rest-ends : (R : Region) {P : ℕ → Type 0} → ((z : ℕ) → P z → Open R z) → {v x e : ℕ} → Rest (Edge R) P v x → Open R x → BarrierFree R x e → EndsAt R e v
rest-ends R free {e = e} (inl q) o w = inr (subst (Open R) (sym q) o, subst (λ (n : ℕ). BarrierFree R n e) (sym q) w)
rest-ends R free {v} (inr h) o w = inr (free v h.0, follow (carry (λ x y e. e) free h.1) o w)

module _ {R : Region} (W : WellFormed R) (C : Connected R) {m : ℕ} where
  -- the thread for a goes first, and the thread for b straight after it
  first-a : {a b : ℕ} (X : Chosen R m a b) (D : Ahead R a b) → Open R a → {σ : State} → AllAt m σ (start D) → {P : ℕ → Type 0}
      → ((z : ℕ) → P z → Open R z) → Path (Edge R) P (start D) a → NotLeft R P b → NoDo R a b → Rendezvous X σ D.end-a.0
  first-a X D oa all {P} free w not_left no-do =
      let H = first_edge w in
      rendezvous W C X (start-barrier D) H.1 (rest-ends R free H.2 oa D.end-a.1) (first_walk W C X free H.2) (start-b D)
      (second-direct W C X P not_left no-do) all

  -- They come together; the others are bound for where the first of the two goes on to.
  abbrev Together : {a b : ℕ} → Chosen R m a b → Ahead R a b → State → Type 0
  Together X D σ = Rendezvous X σ D.end-a.0 ⊎ Rendezvous X σ D.end-b.0

  module _ {a b : ℕ} (X : Chosen R m a b) (D : Ahead R a b) (oa : Open R a) (ob : Open R b) {σ : State} (all : AllAt m σ (start D)) where
    first-b : {P : ℕ → Type 0} → ((z : ℕ) → P z → Open R z) → Path (Edge R) P (start D) b → NotLeft R P a → NoDo R b a → Rendezvous X σ D.end-b.0
    first-b free w not_left no-do = swap-rendezvous (first-a (swap-chosen X) (swap D) ob all free w not_left no-do)

    -- both in one outermost construct, which returns
    in_one : {c : ℕ} → Outermost (R.kind c) → R.inside b c ≡ true → Returns R c → Rendezvous X σ D.end-a.0
    in_one {c} u i ret =
        let H = first_edge (start-a D) in
        let g = from-barrier W (start-barrier D) (start-b D) (inl i) in
        rendezvous W C X (start-barrier D) H.1 (rest-ends R (λ z h. h) H.2 oa D.end-a.1) (first_walk W C X (λ z h. h) H.2) g.0
        (second-rounds W C X u i ret (carry (λ x y e. e) (λ z h. h.0) g.1)) all

    -- in two sections of one sections construct: both in its first instance
    in-sections : {c x : ℕ} → R.kind c ≡ sections → R.inside a c ≡ true → R.inside b c ≡ true → SectionOf R c x → InSection R a x → (InSection R b x → ⊥)
        → Rendezvous X σ D.end-a.0
    in-sections {c} {x} k i j S h n =
        let g = from-barrier W (start-barrier D) (start-a D) (inl i) in
        let o = W.inside-begun i in
        let H = first_edge (before g.0) in
        rendezvous W C X (start-barrier D) H.1
        (rest-ends R (λ z p. p.0) H.2 (λ q. bad (cc o)) (follow (carry (λ x y e. e) (λ z p. p.0) g.1) oa D.end-a.1))
        (first-section W C X k o S H.2 (elim h.within [
          | inl q ↦ inr (inside (inl q))
          | inr (inl q) ↦ inl (sym (W.opens-begin q))
          | inr (inr q) ↦ inr (inside (inr q))
        ])) (start-b D) (second-section W C X k j n) all
      where
        -- to the begin of c for the first time
        before : BarrierFree R (start D) (R.begin c) → Path (Edge R) (Both (Open R) (Not (R.begin c))) (start D) (R.begin c)
        before w = elim (avoid (R.begin c) w) [ inl v ↦ v | inr v ↦ v ]

        inside : AfterBegin R a x → Path (Edge R) (λ z. InSection R z x) (R.begin x) a
        inside q = carry (λ x y e. e) (λ z p. record { is-section = S.is-section; within = inl p.1 }) (from-barrier W (start-barrier D) (start-a D) q).1

    one-exclusive : {c : ℕ} (k : Kind) → R.kind c ≡ k → Exclusive k → R.inside a c ≡ true → R.inside b c ≡ true → Rendezvous X σ D.end-a.0
    one-exclusive {c} single k h i j = in_one (single-outermost k) j (D.unbarred.singles c k i j)
    one-exclusive master k h i j = absurd h
    one-exclusive critical k h i j = absurd h
    one-exclusive loop k h i j = absurd h
    one-exclusive ordered k h i j = absurd h
    one-exclusive section k h i j = absurd h
    one-exclusive parallel k h i j = absurd h
    one-exclusive {c} sections k h i j = let (x, (S, q)) = W.sections-section i k in go x S q (in-or-not R b x)
      where
        go : (x : ℕ) → SectionOf R c x → InSection R a x → InSection R b x ⊎ (InSection R b x → ⊥) → Rendezvous X σ D.end-a.0
        go x S q (inl p) = in_one (sections-outermost k) j (subst (Returns R) S.of-sections (D.unbarred.sections x q p))
        go x S q (inr n) = in-sections k i j S q n

    two-exclusive : {c d : ℕ} → Exclusive (R.kind c) → R.inside a c ≡ true → Exclusive (R.kind d) → R.inside b d ≡ true → Dec (c ≡ d) → Together X D σ
    two-exclusive {d = d} k i l j (yes z) = inl (one-exclusive (R.kind d) refl l (subst (λ (n : ℕ). R.inside a n ≡ true) z i) j)
    two-exclusive {c} {d} k i l j (no z) =
        elim (part W (start-barrier D) (start-a D) (start-b D) i j (exclusive-outermost (R.kind c) k) (exclusive-outermost (R.kind d) l) z) [
          | inl w ↦ inl (first-a X D oa all (λ n h. h.0) w (λ e g h y. only l j g h y.1) (λ e h o. exclusive-or-ordered W k i o))
          | inr w ↦ inr (first-b (λ n h. h.0) w (λ e g h y. only k i g h y.1) (λ e h o. exclusive-or-ordered W l j o))
        ]
      where
        only : {y s t : ℕ} → Exclusive (R.kind s) → R.inside y s ≡ true → Exclusive (R.kind t) → R.inside y t ≡ true → R.begin t ≢ R.begin s → ⊥
        only {s = s} {t} k i l j n = n (ap R.begin (W.one-outermost j i (exclusive-outermost (R.kind t) l) (exclusive-outermost (R.kind s) k)))

    two-ordereds : {c d : ℕ} → InOrdered R a c → InOrdered R b d → Dec (c ≡ d) → Rendezvous X σ D.end-a.0
    two-ordereds {d = d} x y (yes z) = in_one (do-outermost W y) (inside-do W y) (D.unbarred.ordereds d (subst (InOrdered R a) z x) y)
    two-ordereds x y (no z) = first-a X D oa all (λ n h. h) (start-a D) (λ e g h w. exclusive-or-ordered W g h y)
        (λ e h o. z (W.one-outermost (inside-do W x) (inside-do W o) (do-outermost W x) (do-outermost W o)
        ∙ W.one-outermost h (inside-do W y) (do-outermost W o) (do-outermost W y)))

    -- a thread bound for a single or a sections goes first, one bound for an ordered last
    choose : WithinExclusive R a ⊎ WithoutExclusive R a → WithinExclusive R b ⊎ WithoutExclusive R b → Within R ordered a ⊎ Without R ordered a
        → Within R ordered b ⊎ Without R ordered b → Together X D σ
    choose sa (inr nb) (inr na) y = inl (first-a X D oa all (λ n h. h) (start-a D) (λ c g h w. nb c g h) (λ c h o. na o.construct o.is-ordered o.within))
    choose sa (inr nb) (inl x) (inl y) = inl (two-ordereds (in-ordered x) (in-ordered y) (ℕ_discrete (R.parent x.0) (R.parent y.0)))
    choose sa (inr nb) (inl x) (inr ny) = inr (first-b (λ n h. h) (start-b D) (λ c g h w. exclusive-or-ordered W g h (in-ordered x))
        (λ c h o. ny o.construct o.is-ordered o.within))
    choose (inl sa) (inl sb) x y = two-exclusive sa.1 sa.2 sb.1 sb.2 (ℕ_discrete sa.0 sb.0)
    choose (inr na) (inl sb) x y = inr (first-b (λ n h. h) (start-b D) (λ c g h w. na c g h) (λ c h o. exclusive-or-ordered W sb.1 sb.2 o))

    come-together : Together X D σ
    come-together = choose (within-exclusive W a) (within-exclusive W b) (within W ordered a) (within W ordered b)

  -- all go on to the barrier e: first a thread that is in an ordered, since the rest may need that ordered
  module _ {e : ℕ} (bar : R.role e ≡ barrier) where
    -- all but q block nobody; all but p and q
    with-one : {q : ℕ} → q < m → (τ : State) → EndsAt R e (τ.node q) → ((k : ℕ) → k < m → k ≢ q → Bound R e (τ.node k)) → AllCome R m τ e
    with-one q-in τ w f =
        let H = come W C q-in τ bar w (λ d i k l n o. absurd ((f k l n).1 d o)) in
        run-then H.1.run (all_come W C bar (λ k l. settled (Bound R e) H (bound-there W bar) k (f k l)))

    with_two : {p q : ℕ} → p < m → q < m → (τ : State) → Invariant R m τ → EndsAt R e (τ.node p) → EndsAt R e (τ.node q)
        → ((k : ℕ) → k < m → k ≢ p → k ≢ q → Bound R e (τ.node k)) → Within R ordered (τ.node p) ⊎ Without R ordered (τ.node p) → AllCome R m τ e
    with_two {p} {q} p-in q-in τ I wp wq f (inr h) = with-one q-in τ wq (λ k l n. elim (ℕ_discrete k p) [
      | yes z ↦ subst (λ (i : ℕ). Bound R e (τ.node i)) (sym z) (wp, λ d o. h o.construct o.is-ordered o.within)
      | no z ↦ f k l z n
    ])
    with_two {p} {q} p-in q-in τ I wp wq f (inl x) =
        let H : Comes R (Open R) m p τ e = come W C p-in τ bar wp clear in
        run-then H.1.run (with-one q-in H.0 (settled (EndsAt R e) H (inl refl) q (λ z. wq))
        (λ k l n. settled (Bound R e) H (bound-there W bar) k (λ z. f k l z n)))
      where
        o : InOrdered R (τ.node p) (R.parent x.0)
        o = in-ordered x

        clear : (d : ℕ) → R.inside (τ.node p) d ≡ true → NoneOrdered R m τ p d
        clear d i k l n y = I.ordereds d k p l p-in n y
            (subst (InOrdered R (τ.node p)) (W.one-outermost (inside-do W o) i (do-outermost W o) (do-outermost W y)) o)

  from_start : {a b : ℕ} (D : Ahead R a b) → Dec (start D ≡ R.start) → AllCome R m (initial R) (start D)
  unfolding initial
  from_start D (yes z) = (initial R, done, λ t l. sym z)
  from_start D (no z) = travel W C (C.from_start (W.from-kept (first_edge (start-a D)).1) z) W.start-barrier (start-barrier D) (inl refl) (λ t l. refl)

  to-finish : {a e : ℕ} → R.role e ≡ barrier → BarrierFree R a e → {τ : State} → AllAt m τ e → Dec (e ≡ R.finish) → AllCome R m τ R.finish
  to-finish bar w {τ} all (yes z) = (τ, done, λ t l. all t l ∙ z)
  to-finish bar w all (no z) = travel W C (C.to-finish (last-edge w).1 z) bar W.finish-barrier (inl refl) all

  module _ {a b : ℕ} (X : Chosen R m a b) (oa : Open R a) (ob : Open R b) where
    -- A run, which need not finish, with the two threads at a and b.
    pub meet : Unbarred R a b → Meets R m a b
    meet U = go (come-together X D oa ob S.2)
      where
        -- past a and past b an edge leads on
        onward : {x : ℕ} → BarrierFree R U.start.0 x → Open R x → (e : ℕ) × BarrierFree R x e
        onward {x} w o =
            let f = C.to-finish (last-edge w).1 (λ z. o (ap R.role z ∙ W.finish-barrier)) in
            let (v, e, r) = first_edge f in
            (v, last e)

        D : Ahead R a b
        D = record { unbarred = U; end-a = onward U.start.1.0.path oa; end-b = onward U.start.1.1.path ob }

        S : AllCome R m (initial R) (start D)
        S = from_start D (ℕ_discrete (start D) R.start)

        there : {e : ℕ} → Rendezvous X S.0 e → Meets R m a b
        there M = let before = append S.1 M.run in record {
          final = M.state;
          run = append before done;
          state = M.state;
          passed = append-state before done;
          t = X.p;
          u = X.q;
          t-in = X.p-in;
          u-in = X.q-in;
          differ = X.differ;
          at_a = M.at_a;
          at_b = M.at_b;
        }

        go : Together X D S.0 → Meets R m a b
        go (inl M) = there M
        go (inr M) = there M

    -- One that finishes, where they have a common end.
    pub complete : Unexcluded R a b → ConcurrentIn R m a b
    complete U = record {
      final = Z.0;
      run = append before (append E.1 Z.1);
      finished = Z.2;
      state = M.state;
      passed = append-state before (append E.1 Z.1);
      t = X.p;
      u = X.q;
      t-in = X.p-in;
      u-in = X.q-in;
      differ = X.differ;
      at_a = M.at_a;
      at_b = M.at_b;
    }
      where
        e : ℕ
        e = (U.common backward).0

        bar : R.role e ≡ barrier
        bar = (U.common backward).1.0.is-barrier

        end-a : BarrierFree R a e
        end-a = (U.common backward).1.0.path

        end-b : BarrierFree R b e
        end-b = (U.common backward).1.1.path

        D : Ahead R a b
        D = record { unbarred = unexcluded-unbarred U; end-a = (e, end-a); end-b = (e, end-b) }

        S : AllCome R m (initial R) (start D)
        S = from_start D (ℕ_discrete (start D) R.start)

        whoever : Together X D S.0 → Rendezvous X S.0 e
        whoever (inl N) = N
        whoever (inr N) = N

        M : Rendezvous X S.0 e
        M = whoever (come-together X D oa ob S.2)

        before : Run R m (initial R) M.state
        before = append S.1 M.run

        E : AllCome R m M.state e
        E = with_two bar X.p-in X.q-in M.state (invariant W C before (invariant-first W C))
            (subst (EndsAt R e) (sym M.at_a) (inr (oa, end-a))) (subst (EndsAt R e) (sym M.at_b) (inr (ob, end-b)))
            M.others (within W ordered (M.state.node X.p))

        Z : AllCome R m E.0 R.finish
        Z = to-finish bar end-a E.2 (ℕ_discrete e R.finish)
