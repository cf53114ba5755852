-- The invariants and measures of `call_replay::feed::all_at`.
use mathlib.Core.Path.{◌≡◌}
use mathlib.Core.Bool.{true}
use Prim.Native.Nat.{◌-◌, ◌≤◌}
use lib.Dec.{eqb}
use Rattle.lists.specs.Range.{every}
use Rattle.theory_team.specs.State.{State}
use Rattle.answer_steps.specs.Tables.{Shows}
use Rattle.call_replay.proofs.feed.all_at.Given as goal

abbrev pub invariant-loop-k : goal.invariant-loop-k
invariant-loop-k l = (l.k ≤ l.m) × ((σ : State) → Shows σ l.team → every l.k (λ j. eqb (σ.node j) l.x) ≡ true)
