-- A count is at most the number of entries.
-- Assumes nothing.
use mathlib.Core.Path.{◌≡◌, subst}
use mathlib.Core.Bool.{◌&&◌}
use mathlib.Core.List.{List, [], ◌∷◌, ◌++◌}
use mathlib.Core.Option.{Option, none, some}
use Prim.Native.Nat.{ℕ, suc, ◌≤◌}
use native.Mathlib.Omega.{arith}
use native.Mathlib.Decide.{ℕ_discrete}
use lib.Dec.{eqb}
use lib.ListN.{length}
use Rattle.chart.specs.Region.{Region}
use Rattle.theory_team.specs.State.{State, initial, moved, left, took, released, update}
use Rattle.theory_traces.specs.Decide.{decide, apply, allowed}
use Rattle.theory_traces.proofs.DecideLaws.{cond_cases}
use Rattle.theory_traces.specs.Replay.{Play, reached, begun, gathered, chosen_now, choose, stepped, feed}
use Rattle.theory_traces.specs.declared.Effect.{Effect}
use Rattle.theory_traces.specs.declared.Effect.TheVariants.{None, Moves, Leaves, Takes, TakesNext}
use Rattle.answer_steps.proofs.Stores.{pair-at, pair-off}
use Rattle.call_replay.specs.Playing.{Few}

few-left : (k : ℕ) (σ : State) (t c v : ℕ) → Few k σ → Few (suc k) (left σ t c v)
unfolding left
few-left k σ t c v f u d = go (ℕ_discrete u t) (ℕ_discrete d c)
  where
    go : Dec (u ≡ t) → Dec (d ≡ c) → update σ.encounters t (update (σ.encounters t) c (suc (σ.encounters t c))) u d ≤ suc k
    go (yes p) (yes q) = rw (pair-at σ.encounters t c (suc (σ.encounters t c)) u d p q) (omega (arith, f t c))
    go (yes p) (no q) = rw (pair-off σ.encounters t c (suc (σ.encounters t c)) u d (λ a b. q b)) (omega (arith, f u d))
    go (no p) e = rw (pair-off σ.encounters t c (suc (σ.encounters t c)) u d (λ a b. p a)) (omega (arith, f u d))

few-apply : (k : ℕ) (σ : State) (t v : ℕ) (e : Effect) → Few k σ → Few (suc k) (apply σ t v e)
unfolding apply moved took
few-apply k σ t v None f = λ u d. omega (arith, f u d)
few-apply k σ t v Moves f = λ u d. omega (arith, f u d)
few-apply k σ t v (Leaves c) f = few-left k σ t c v f
few-apply k σ t v (Takes c x) f = few-left k σ t c v f
few-apply k σ t v (TakesNext c x) f = λ u d. omega (arith, f u d)

abbrev FewIf : ℕ → Option Play → Type 0
FewIf k none = Unit {0}
FewIf k (some Q) = Few k Q.state

module _ (R : Region) (m k : ℕ) (P : Play) (f : Few k P.state) where
  few-chosen : (nodes : List ℕ) → Few (suc k) (chosen_now m P nodes).state
  unfolding chosen_now reached released
  few-chosen nodes = cond_cases (eqb (length nodes) m) _ _ (λ (Q : Play). Few (suc k) Q.state) (λ h t c. omega arith) (λ h t c. omega (arith, f t c))

  few-fed : (t v : ℕ) → FewIf (suc k) (feed R m P t v)
  unfolding feed choose stepped reached
  few-fed t v = cond_cases (gathered R m P.state) _ _ (FewIf (suc k))
      (λ g. cond_cases (eqb t (length P.chosen) && R.edge (P.state.node 0) v) (some (chosen_now m P (P.chosen ++ (v ∷ [])))) none (FewIf (suc k)) (λ h. few-chosen (P.chosen ++ (v ∷ []))) (λ h. tt {0}))
      (λ g. cond_cases (allowed (decide R m P.state t v)) _ _ (FewIf (suc k)) (λ h. few-apply k P.state t v (decide R m P.state t v) f) (λ h. tt {0}))

  pub few-feed : (t v : ℕ) (Q : Play) → feed R m P t v ≡ some Q → Few (suc k) Q.state
  few-feed t v Q e = subst (FewIf (suc k)) e (few-fed t v)

pub few-begun : (R : Region) (m : ℕ) → Few 0 (begun R m).state
unfolding begun reached initial
few-begun R m t c = omega arith
