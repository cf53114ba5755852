-- The replay is what the team rules say of a trace: it goes on exactly along legal entries, it stops where no entry is legal, and it marks what is
-- met.
-- Assumes nothing.
use Rattle.std.specs.Prelude.{◌≡◌, ◌⊎◌, true, false, ◌&&◌, eqb}
use Rattle.std.proofs.Math.Path.{refl, ap, subst}
use Rattle.std.proofs.Common.{sym, ◌∙◌}
use Rattle.std.proofs.Math.Logic.{inl, inr}
use mathlib.Core.List.{List, [], ◌∷◌, ◌++◌}
use Rattle.std.proofs.Math.Option.{Option, none, some}
use Prim.Native.Nat.{ℕ, zero, suc, ◌+◌, ◌≤◌, ◌<◌}
use native.Mathlib.Omega.{arith}
use Rattle.std.proofs.Math.Decide.{ℕ_discrete}
use Rattle.std.proofs.Math.ListN.{length, get_or, length-append}
use borrow.Author.Tests.{eqb-false}
use Rattle.lists.specs.Truth.{bad, clash}
use Rattle.lists.specs.Means.{both_of, either-of, equal_of}
use Rattle.chart.specs.Region.{Region}
use Rattle.chart.specs.WellFormed.{WellFormed}
use Rattle.theory_team.specs.State.{State, initial, released}
use Rattle.theory_team.specs.Step.{ThreadStep}
use Rattle.theory_traces.specs.Owned.{Own}
use Rattle.theory_traces.proofs.TestsLaws.{own}
use Rattle.theory_traces.specs.Decide.{decide, allowed}
use Rattle.theory_traces.proofs.DecideLaws.{cond_cases, decided-step}
use Rattle.theory_traces.specs.Legal.{thread_at, target_at, Gathered, Chooses, Legal, begins, steps, chooses, releases, Together, MetBy}
use Rattle.theory_traces.specs.Replay.{Play, reached, begun, gathered, chosen_now, choose, stepped, feed, Progress, going, stopped, onward, next, progress, play_of}
use Rattle.theory_traces.proofs.ReplayLaws.{goes_on, together-of, Grows, grows-reached, gathered-of}
use Rattle.theory_traces.proofs.Feeding.{pending, chosen-part, chosen-whole, step-fed, choice-fed}

-- a pair is met both ways round
pub met-swap : {R : Region} {m : ℕ} {trace : List ℕ} {k a b : ℕ} → MetBy R m trace k a b → MetBy R m trace k b a
met-swap M = let (t, l, (u, j, (d, (x, y)))) = M.there in record {
  entries = M.entries;
  up_to = M.up_to;
  state = M.state;
  chosen = M.chosen;
  legal = M.legal;
  there = (u, j, (t, l, ((λ e. d (sym e)), (y, x))));
}

module _ (R : Region) (W : WellFormed R) (m : ℕ) (least : 1 ≤ m) (trace : List ℕ) where
  -- while a release is chosen all are gathered, and fewer have chosen than there are threads
  idle : {k : ℕ} {σ : State} {nodes : List ℕ} → Legal R m trace k σ nodes → (nodes ≡ []) ⊎ Gathered R m σ
  idle begins = inl refl
  idle (steps L l s) = inl refl
  idle (chooses L C short) = inr C.gathered
  idle (releases L C whole) = inl refl

  few-chosen : {k : ℕ} {σ : State} {nodes : List ℕ} → Legal R m trace k σ nodes → length nodes < m
  few-chosen begins = least
  few-chosen (steps L l s) = least
  few-chosen (chooses {k} {nodes = nodes} L C short) = omega (arith, length-append nodes (target_at trace k ∷ []))
  few-chosen (releases L C whole) = least

  -- The play after k entries: they are legal, and what is marked was met.
  pub record Follows (k : ℕ) (P : Play) : Type 0 where
    pub legal : Legal R m trace k P.state P.chosen
    pub marks : (a b : ℕ) → P.met a b ≡ true → MetBy R m trace k a b

  abbrev FollowsIf : ℕ → Option Play → Type 0
  FollowsIf k none = Unit {0}
  FollowsIf k (some Q) = Follows k Q

  later-met : {k a b : ℕ} → MetBy R m trace k a b → MetBy R m trace (suc k) a b
  later-met M = record { entries = M.entries; up_to = omega (arith, M.up_to); state = M.state; chosen = M.chosen; legal = M.legal; there = M.there }

  follows-reached : (k : ℕ) (P : Play) (τ : State) → Follows k P → Legal R m trace (suc k) τ [] → Follows (suc k) (reached m P.met τ)
  unfolding reached
  follows-reached k P τ F L = record {
    legal = L;
    marks = λ a b h. elim ((either-of (own (P.met a b)) (together-of m τ a b)).0 h) [
      | inl g ↦ later-met (F.marks a b g)
      | inr p ↦ record { entries = suc k; up_to = omega arith; state = τ; chosen = []; legal = L; there = p }
    ];
  }

  follows-begun : Follows 0 (begun R m)
  unfolding begun reached
  follows-begun = record {
    legal = begins;
    marks = λ a b h. record { entries = 0; up_to = omega arith; state = initial R; chosen = []; legal = begins; there = (together-of m (initial R) a b).0 h };
  }

  -- the entry k, fed to a play that follows
  module _ (k : ℕ) (P : Play) (F : Follows k P) where
    abbrev t : ℕ
    t = thread_at trace k

    abbrev v : ℕ
    v = target_at trace k

    follows-chosen : Chooses R m P.state P.chosen t v → Follows (suc k) (chosen_now m P (P.chosen ++ (v ∷ [])))
    unfolding chosen_now
    follows-chosen C =
        let nodes = P.chosen ++ (v ∷ []) in
        let more = length-append P.chosen (v ∷ []) in
        cond_cases (eqb (length nodes) m) _ _ (Follows (suc k))
        (λ h. let e = (equal_of (length nodes) m).0 h in
        follows-reached k P _ F (releases F.legal C (omega arith)))
        (λ h. let e = eqb-false (length nodes) m h in
        record { legal = chooses F.legal C (below (few-chosen F.legal) more e); marks = λ a b g. later-met (F.marks a b g) })
      where
        below : length P.chosen < m → length (P.chosen ++ (v ∷ [])) ≡ length P.chosen + 1 → (length (P.chosen ++ (v ∷ [])) ≡ m → ⊥) → suc (length P.chosen) < m
        below l more n = omega arith

    follows-choose : Gathered R m P.state → FollowsIf (suc k) (choose R m P t v)
    unfolding choose
    follows-choose G = cond_cases (eqb t (length P.chosen) && R.edge (P.state.node 0) v) _ _ (FollowsIf (suc k))
        (λ h. let (o, e) = (both_of (equal_of t (length P.chosen)) (own (R.edge (P.state.node 0) v))).0 h in
        follows-chosen (record { gathered = G; in_order = o; along = e }))
        (λ h. tt)

    follows-stepped : (gathered R m P.state ≡ false) → FollowsIf (suc k) (stepped m P t v (decide R m P.state t v))
    unfolding stepped
    follows-stepped g = cond_cases (allowed (decide R m P.state t v)) _ _ (FollowsIf (suc k))
        (λ h. let (l, s) = decided-step R W m P.state t v h in follows-reached k P _ F (steps (subst (Legal R m trace k P.state) alone F.legal) l s))
        (λ h. tt)
      where
        alone : P.chosen ≡ []
        alone = elim (idle F.legal) [ inl e ↦ e | inr G ↦ absurd (clash ((gathered-of R m P.state).1 G) g) ]

    follows-feed : FollowsIf (suc k) (feed R m P t v)
    unfolding feed
    follows-feed = cond_cases (gathered R m P.state) _ _ (FollowsIf (suc k)) (λ g. follows-choose ((gathered-of R m P.state).0 g)) follows-stepped

  -- The replay has stopped at entry i: up to there it follows, and that entry is not fed.
  pub record Stops (k i : ℕ) (P : Play) : Type 0 where
    pub before : i < k
    pub came : progress R m trace i ≡ going P
    pub follows : Follows i P
    pub not-fed : feed R m P (thread_at trace i) (target_at trace i) ≡ none

  abbrev pub FollowsTo : ℕ → Progress → Type 0
  FollowsTo k (going P) = Follows k P
  FollowsTo k (stopped P i) = Stops k i P

  pub progress-follows : (k : ℕ) → FollowsTo k (progress R m trace k)
  unfolding progress next onward
  progress-follows zero = follows-begun
  progress-follows (suc k) = go (progress R m trace k) refl (progress-follows k)
    where
      fed : (P : Play) → progress R m trace k ≡ going P → Follows k P → (o : Option Play) → feed R m P (thread_at trace k) (target_at trace k) ≡ o
          → FollowsIf (suc k) o → FollowsTo (suc k) (onward k P o)
      fed P c F none h G = record { before = omega arith; came = c; follows = F; not-fed = h }
      fed P c F (some Q) h G = G

      go : (p : Progress) → progress R m trace k ≡ p → FollowsTo k p → FollowsTo (suc k) (next R m k (thread_at trace k) (target_at trace k) p)
      go (going P) c F = fed P c F (feed R m P (thread_at trace k) (target_at trace k)) refl (follows-feed k P F)
      go (stopped P i) c S = record { before = omega (arith, S.before); came = S.came; follows = S.follows; not-fed = S.not-fed }

  -- Legal entries are replayed, to the state that they lead to.
  pub record Comes (k : ℕ) (σ : State) (nodes : List ℕ) : Type 0 where
    pub play : Play
    pub came : progress R m trace k ≡ going play
    pub same-state : play.state ≡ σ
    pub same_chosen : play.chosen ≡ nodes

  carried : {σ τ : State} {nodes more : List ℕ} {t v : ℕ} → σ ≡ τ → nodes ≡ more → Chooses R m τ more t v → Chooses R m σ nodes t v
  carried {σ} {more = more} {t = t} {v = v} p q C =
      subst (λ (nodes : List ℕ). Chooses R m σ nodes t v) (sym q) (subst (λ (τ : State). Chooses R m τ more t v) (sym p) C)

  pub legal-comes : {k : ℕ} {σ : State} {nodes : List ℕ} → Legal R m trace k σ nodes → Comes k σ nodes
  unfolding progress begun reached
  legal-comes begins = record { play = begun R m; came = refl; same-state = refl; same_chosen = refl }
  legal-comes (steps {k} {τ = τ} L l s) =
      let C = legal-comes L in
      let P = C.play in
      let t = thread_at trace k in let v = target_at trace k in
      let s' : ThreadStep R m P.state t v τ = subst (λ (π : State). ThreadStep R m π t v τ) (sym C.same-state) s in
      record { play = reached m P.met τ; came = goes_on R m trace k P _ C.came (step-fed R W m P t v l s'); same-state = refl; same_chosen = refl }
  legal-comes (chooses {k} {nodes = nodes} L D short) =
      let C = legal-comes L in
      let P = C.play in
      let t = thread_at trace k in let v = target_at trace k in
      let more = P.chosen ++ (v ∷ []) in
      let fed = choice-fed R W m P t v (carried C.same-state C.same_chosen D) in
      let few : length more < m = omega (arith, length-append P.chosen (v ∷ []), ap length C.same_chosen) in
      record {
        play = pending P more;
        came = goes_on R m trace k P _ C.came (fed ∙ ap some (chosen-part m P more few));
        same-state = C.same-state;
        same_chosen = ap (λ (l : List ℕ). l ++ (v ∷ [])) C.same_chosen;
      }
  legal-comes (releases {k} {σ} {nodes = nodes} L D whole) =
      let C = legal-comes L in
      let P = C.play in
      let t = thread_at trace k in let v = target_at trace k in
      let more = P.chosen ++ (v ∷ []) in
      let fed = choice-fed R W m P t v (carried C.same-state C.same_chosen D) in
      let all : length more ≡ m = omega (arith, length-append P.chosen (v ∷ []), ap length C.same_chosen) in
      record {
        play = reached m P.met (released m P.state (λ u. get_or more u 0));
        came = goes_on R m trace k P _ C.came (fed ∙ ap some (chosen-whole m P more all));
        same-state = rw (C.same-state, C.same_chosen);
        same_chosen = refl;
      }

  -- No legal entry stops the replay.
  pub stops-illegal : {k i : ℕ} {P : Play} → Stops k i P → {τ : State} {nodes : List ℕ} → Legal R m trace (suc i) τ nodes → ⊥
  unfolding progress next onward
  stops-illegal {i = i} {P} S L =
      let C = legal-comes L in
      let q : progress R m trace (suc i) ≡ stopped P i = rw (S.came, S.not-fed) in
      bad (cc (C.came, q))

  -- the marks of a replay
  abbrev GrowsIf : Play → Option Play → Type 0
  GrowsIf P none = Unit {0}
  GrowsIf P (some Q) = Grows m P Q

  grows-feed : (P : Play) (t v : ℕ) → GrowsIf P (feed R m P t v)
  unfolding feed choose chosen_now stepped
  grows-feed P t v = cond_cases (gathered R m P.state) _ _ (GrowsIf P)
      (λ g. cond_cases (eqb t (length P.chosen) && R.edge (P.state.node 0) v) _ _ (GrowsIf P)
      (λ h. cond_cases (eqb (length (P.chosen ++ (v ∷ []))) m) _ _ (Grows m P) (λ e. grows-reached m P _) (λ e. record { keeps = λ a b h. h; owns = λ o. o })) (λ h. tt))
      (λ g. cond_cases (allowed (decide R m P.state t v)) _ _ (GrowsIf P) (λ h. grows-reached m P _) (λ h. tt))

  grows-next : (k t v : ℕ) (p : Progress) → Grows m (play_of p) (play_of (next R m k t v p))
  unfolding next onward play_of
  grows-next k t v (stopped P i) = record { keeps = λ a b h. h; owns = λ o. o }
  grows-next k t v (going P) = go (feed R m P t v) (grows-feed P t v)
    where
      go : (o : Option Play) → GrowsIf P o → Grows m P (play_of (onward k P o))
      go none g = record { keeps = λ a b h. h; owns = λ o. o }
      go (some Q) g = g

  own-marks : (k : ℕ) → Own m (play_of (progress R m trace k))
  unfolding progress play_of begun reached
  own-marks zero = λ a b h. (together-of m (initial R) a b).1 h
  own-marks (suc k) = (grows-next k _ _ (progress R m trace k)).owns (own-marks k)

  kept-marks : (k j : ℕ) → j ≤ k → (a b : ℕ) → (play_of (progress R m trace j)).met a b ≡ true → (play_of (progress R m trace k)).met a b ≡ true
  unfolding progress
  kept-marks zero j l a b h = let e : j ≡ 0 = omega arith in subst (λ (i : ℕ). (play_of (progress R m trace i)).met a b ≡ true) e h
  kept-marks (suc k) j l a b h = elim (ℕ_discrete j (suc k)) [
    | yes e ↦ subst (λ (i : ℕ). (play_of (progress R m trace i)).met a b ≡ true) e h
    | no e ↦ (grows-next k _ _ (progress R m trace k)).keeps a b (kept-marks k j (omega arith) a b h)
  ]

  -- What is met up to there is marked.
  pub met-marked : {k a b : ℕ} → MetBy R m trace k a b → (play_of (progress R m trace k)).met a b ≡ true
  unfolding play_of
  met-marked {k} {a} {b} M =
      let C = legal-comes M.legal in
      let same : (play_of (progress R m trace M.entries)).state ≡ M.state = rw C.came C.same-state in
      kept-marks k M.entries M.up_to a b (own-marks M.entries a b (subst (λ (σ : State). Together m σ a b) (sym same) M.there))
