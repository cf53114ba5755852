-- The invariants and measures of `answer_steps::tests::is_first`.
use mathlib.Core.Path.{◌≡◌}
use mathlib.Core.Bool.{true}
use Prim.Native.Nat.{◌-◌, ◌≤◌}
use lib.Dec.{leb}
use Rattle.lists.specs.Range.{every}
use Rattle.theory_team.specs.State.{State}
use Rattle.answer_steps.specs.Teams.{count_at}
use Rattle.answer_steps.specs.Tables.{Shows}
use Rattle.answer_steps.proofs.tests.is_first.Given as goal

abbrev pub invariant-loop-k : goal.invariant-loop-k
invariant-loop-k l =
    (l.k ≤ l.m) × (l.own ≡ count_at l.team l.t l.c) × ((σ : State) → Shows σ l.team → every l.k (λ j. leb (σ.encounters j l.c) (σ.encounters l.t l.c)) ≡ true)
