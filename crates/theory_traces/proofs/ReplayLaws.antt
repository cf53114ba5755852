-- What has been replayed is a run, and every pair marked is met in it: so a pair marked by a finished trace is concurrent.
-- Assumes nothing.
use Rattle.std.specs.Prelude.{◌≡◌, refl, ◌⊎◌, ◌↔◌, Bool, true, false, ◌&&◌, List, [], ◌∷◌, ◌++◌, eqb, length}
use Rattle.std.proofs.Common.{sym, ◌∙◌, subst, length-append}
use Rattle.std.proofs.Math.Path.{ap}
use Rattle.std.proofs.Math.Logic.{inl, inr}
use Rattle.std.proofs.Math.Option.{Option, none, some}
use Prim.Native.Nat.{ℕ, zero, suc, ◌/◌, ◌≤◌, ◌<◌}
use native.Mathlib.Omega.{arith}
use Rattle.std.proofs.Math.Decide.{ℕ_discrete}
use Rattle.std.proofs.Math.ListN.{get_or, get_or-append}
use Rattle.std.proofs.Math.Seq.{get_or-append_seam}
use Rattle.lists.specs.Truth.{bad, truth, or_left, or_right}
use Rattle.lists.specs.Range.{any, any_at, at-any}
use Rattle.lists.specs.Means.{both_of, either-of, not-of, equal_of}
use Rattle.chart.specs.Region.{Region}
use Rattle.chart.specs.WellFormed.{WellFormed}
use Rattle.theory_paths.specs.Path.{Open}
use Rattle.theory_paths.specs.Connected.{Connected}
use Rattle.theory_paths.specs.PhasesLaws.{barrier-of}
use Rattle.theory_team.specs.State.{State, initial}
use Rattle.theory_team.specs.Step.{ThreadStep, Step, one, release}
use Rattle.theory_team.specs.Run.{Run, done, step, Finished, ConcurrentIn}
use Rattle.theory_team.specs.Meets.{Meets, meets-concurrent}
use Rattle.theory_answers.specs.Answer.{answer, answer_in}
use Rattle.theory_exact.specs.Runs.{append, append-state}
use Rattle.theory_exact.proofs.AnsweredLaws.{answer-exact, size_exact}
use Rattle.theory_traces.specs.Owned.{Own}
use Rattle.theory_traces.specs.Legal.{thread_at, target_at, Gathered, Together}
use Rattle.theory_traces.proofs.TestsLaws.{own, every_of}
use Rattle.theory_traces.specs.Decide.{decide, apply, allowed}
use Rattle.theory_traces.proofs.DecideLaws.{cond_cases, decided-step}
use Rattle.theory_traces.specs.Replay.{together, Play, reached, begun, gathered, chosen_now, choose, stepped, feed, Progress, going, stopped, onward, next, progress, replayed, at_finish, outcome_of, play_of}
use Rattle.theory_traces.specs.declared.Effect.{Effect}
use Rattle.theory_traces.specs.declared.Replayed.TheVariants.{Finished as Ended}

module _ (R : Region) (m : ℕ) (trace : List ℕ) where
  -- an entry that is fed, and one that is not
  pub goes_on : (k : ℕ) (P Q : Play) → progress R m trace k ≡ going P → feed R m P (thread_at trace k) (target_at trace k) ≡ some Q
      → progress R m trace (suc k) ≡ going Q
  unfolding progress next onward
  goes_on k P Q c h = rw (c, h)

  pub halts : (k : ℕ) (P : Play) → progress R m trace k ≡ going P → feed R m P (thread_at trace k) (target_at trace k) ≡ none
      → progress R m trace (suc k) ≡ stopped P k
  unfolding progress next onward
  halts k P c h = rw (c, h)

  -- a replay that has stopped stays so
  pub stays : (P : Play) (i k j : ℕ) → k ≤ j → progress R m trace k ≡ stopped P i → progress R m trace j ≡ stopped P i
  unfolding progress next
  stays P i k zero l h = let e : k ≡ 0 = omega arith in ap (progress R m trace) (sym e) ∙ h
  stays P i k (suc j) l h = elim (ℕ_discrete k (suc j)) [ yes e ↦ ap (progress R m trace) (sym e) ∙ h | no e ↦ rw (stays P i k j (omega arith) h) ]

any_of : (n : ℕ) {f : ℕ → Bool} {P : ℕ → Type 0} → ((k : ℕ) → (f k ≡ true) ↔ P k) → (any n f ≡ true) ↔ ((k : ℕ) × (k < n) × P k)
any_of n {f} p = ((λ h. let (k, l, g) = any_at n f h in (k, l, (p k).0 g)), λ h. at-any n f h.0 h.1 ((p h.0).1 h.2))

pub together-of : (m : ℕ) (σ : State) (a b : ℕ) → (together m σ a b ≡ true) ↔ Together m σ a b
unfolding together
together-of m σ a b = any_of m (λ t. any_of m (λ k. both_of (not-of (equal_of t k)) (both_of (equal_of (σ.node t) a) (equal_of (σ.node k) b))))

-- What was marked stays so, and what is met in the state is marked still.
pub record Grows (m : ℕ) (P Q : Play) : Type 0 where
  pub keeps : (a b : ℕ) → P.met a b ≡ true → Q.met a b ≡ true
  pub owns : Own m P → Own m Q

pub grows-reached : (m : ℕ) (P : Play) (τ : State) → Grows m P (reached m P.met τ)
unfolding reached
grows-reached m P τ = record { keeps = λ a b h. or_left (P.met a b) _ h; owns = λ o a b h. or_right (P.met a b) _ ((together-of m τ a b).1 h) }

pub gathered-of : (R : Region) (m : ℕ) (σ : State) → (gathered R m σ ≡ true) ↔ Gathered R m σ
unfolding gathered
gathered-of R m σ =
    let f = both_of (barrier-of (R.role (σ.node 0))) (both_of (not-of (equal_of (σ.node 0) R.finish)) (every_of m (λ k. equal_of (σ.node k) (σ.node 0)))) in
    ((λ h. let (b, (n, a)) = f.0 h in record { at-barrier = b; going_on = n; all_there = a }), λ G. f.1 (G.at-barrier, (G.going_on, G.all_there)))

module _ (R : Region) (W : WellFormed R) (m : ℕ) where
  -- edges lead to the nodes chosen so far
  abbrev Ahead : State → List ℕ → Type 0
  Ahead σ nodes = (t : ℕ) → t < length nodes → R.edge (σ.node 0) (get_or nodes t 0) ≡ true

  -- A run leads to the state, and each pair met is met in one of its states.
  pub record Ran (P : Play) : Type 0 where
    pub run : Run R m (initial R) P.state
    pub ahead : Ahead P.state P.chosen
    pub pairs : (a b : ℕ) → P.met a b ≡ true → (μ : State) × (Run R m (initial R) μ × (Run R m μ P.state × Together m μ a b))

  none_ahead : (σ : State) → Ahead σ []
  none_ahead σ t l = absurd (omega arith)

  one-ahead : (σ : State) (nodes : List ℕ) (v : ℕ) → Ahead σ nodes → R.edge (σ.node 0) v ≡ true → Ahead σ (nodes ++ (v ∷ []))
  one-ahead σ nodes v A e t l = elim (ℕ_discrete t (length nodes)) [
    | yes q ↦ subst (λ (u : ℕ). R.edge (σ.node 0) u ≡ true) (sym (ap (λ (n : ℕ). get_or (nodes ++ (v ∷ [])) n 0) q ∙ get_or-append_seam nodes v [] 0)) e
    | no q ↦ (let less : t < length nodes = omega (arith, length-append nodes (v ∷ [])) in
        subst (λ (u : ℕ). R.edge (σ.node 0) u ≡ true) (sym (get_or-append nodes (v ∷ []) 0 t less)) (A t less))
  ]

  -- one step more
  ran-step : (P : Play) (τ : State) → Ran P → Step R m P.state τ → Ran (reached m P.met τ)
  unfolding reached
  ran-step P τ r s = record {
    run = append r.run (step s done);
    ahead = none_ahead τ;
    pairs = λ a b h. elim ((either-of (own (P.met a b)) (together-of m τ a b)).0 h) [
      | inl g ↦ (let (μ, (u, (w, p))) = r.pairs a b g in (μ, (u, (append w (step s done), p))))
      | inr p ↦ (τ, (append r.run (step s done), (done, p)))
    ];
  }

  -- what an entry leads to, if anything
  abbrev RanIf : Option Play → Type 0
  RanIf none = Unit {0}
  RanIf (some Q) = Ran Q

  ran-chosen : (P : Play) (nodes : List ℕ) → Gathered R m P.state → Ran P → Ahead P.state nodes → Ran (chosen_now m P nodes)
  unfolding chosen_now
  ran-chosen P nodes G r A = cond_cases (eqb (length nodes) m) _ _ Ran
      (λ h. let n = (equal_of (length nodes) m).0 h in
      ran-step P _ r (release (P.state.node 0) (λ k. get_or nodes k 0) G.at-barrier G.going_on G.all_there (λ t l. A t (subst (λ (j : ℕ). t < j) (sym n) l))))
      (λ h. record { run = r.run; ahead = A; pairs = r.pairs })

  ran-choose : (P : Play) (t v : ℕ) → Gathered R m P.state → Ran P → RanIf (choose R m P t v)
  unfolding choose
  ran-choose P t v G r = cond_cases (eqb t (length P.chosen) && R.edge (P.state.node 0) v) _ _ RanIf
      (λ h. let e = ((both_of (own (eqb t (length P.chosen))) (own (R.edge (P.state.node 0) v))).0 h).1 in
      ran-chosen P (P.chosen ++ (v ∷ [])) G r (one-ahead P.state P.chosen v r.ahead e))
      (λ h. tt)

  ran-stepped : (P : Play) (t v : ℕ) (e : Effect) → Ran P → (allowed e ≡ true → (t < m) × ThreadStep R m P.state t v (apply P.state t v e))
      → RanIf (stepped m P t v e)
  unfolding stepped
  ran-stepped P t v e r f = cond_cases (allowed e) _ _ RanIf (λ h. ran-step P _ r (one (f h).0 (f h).1)) (λ h. tt)

  ran-feed : (P : Play) (t v : ℕ) → Ran P → RanIf (feed R m P t v)
  unfolding feed
  ran-feed P t v r = cond_cases (gathered R m P.state) _ _ RanIf
      (λ g. ran-choose P t v ((gathered-of R m P.state).0 g) r)
      (λ g. ran-stepped P t v (decide R m P.state t v) r (decided-step R W m P.state t v))

  ran-begun : Ran (begun R m)
  unfolding begun reached
  ran-begun = record { run = done; ahead = none_ahead (initial R); pairs = λ a b h. (initial R, (done, (done, (together-of m (initial R) a b).0 h))) }

  ran-onward : (i : ℕ) (P : Play) (o : Option Play) → Ran P → RanIf o → Ran (play_of (onward i P o))
  unfolding onward play_of
  ran-onward i P none r s = r
  ran-onward i P (some Q) r s = s

  ran-next : (i t v : ℕ) (p : Progress) → Ran (play_of p) → Ran (play_of (next R m i t v p))
  unfolding next play_of
  ran-next i t v (going P) r = ran-onward i P (feed R m P t v) r (ran-feed P t v r)
  ran-next i t v (stopped P k) r = r

  -- Whatever was replayed is a run of the team, and what was marked was met in it.
  pub ran : (trace : List ℕ) (k : ℕ) → Ran (play_of (progress R m trace k))
  unfolding progress play_of
  ran trace zero = ran-begun
  ran trace (suc k) = ran-next k _ _ (progress R m trace k) (ran trace k)

  pub finish-of : (σ : State) → (at_finish R m σ ≡ true) ↔ Finished R m σ
  unfolding at_finish
  finish-of σ = every_of m (λ k. equal_of (σ.node k) R.finish)

  pub ended : (p : Progress) → outcome_of R m p ≡ Ended → Finished R m (play_of p).state
  unfolding outcome_of play_of
  ended (going P) q = go (truth (at_finish R m P.state))
    where
      go : (at_finish R m P.state ≡ true) ⊎ (at_finish R m P.state ≡ false) → Finished R m P.state
      go (inl w) = (finish-of P.state).0 w
      go (inr w) = absurd (bad (cc (rw w at q)))
  ended (stopped P i) q = absurd (bad (cc))

  -- Every pair marked by a trace is met by a run, finished or not.
  pub marked-met : (trace : List ℕ) (a b : ℕ) → (play_of (replayed R m trace)).met a b ≡ true → (M : Meets R m a b) × (M.final ≡ (play_of (replayed R m trace)).state)
  marked-met trace a b h =
      let (μ, (u, (w, (t, l, (k, j, (d, (x, y))))))) = (ran trace (length trace / 2)).pairs a b h in (
        record {
          final = (play_of (replayed R m trace)).state;
          run = append u w;
          state = μ;
          passed = append-state u w;
          t = t;
          u = k;
          t-in = l;
          u-in = j;
          differ = d;
          at_a = x;
          at_b = y;
        },
        refl,
      )

  -- By a finished trace it is concurrent in teams of its size.
  pub marked-concurrent : (trace : List ℕ) (a b : ℕ) → outcome_of R m (replayed R m trace) ≡ Ended → (play_of (replayed R m trace)).met a b ≡ true → ConcurrentIn R m a b
  marked-concurrent trace a b q h =
      let (M, e) = marked-met trace a b h in meets-concurrent M (subst (Finished R m) (sym e) (ended (replayed R m trace) q))

  -- So such a pair of nodes that are no barriers is answered 0, without a size and with that of the team.
  pub marked-answered : Connected R → (trace : List ℕ) (a b : ℕ) → Open R a → Open R b
      → outcome_of R m (replayed R m trace) ≡ Ended → (play_of (replayed R m trace)).met a b ≡ true → (answer R a b ≡ 0) × (answer_in R m a b ≡ 0)
  marked-answered C trace a b oa ob q h =
      let M = marked-concurrent trace a b q h in ((answer-exact W C oa ob).1 (m, M), (size_exact W C oa ob m).1 M)
