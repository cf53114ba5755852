-- The invariants and measures of `answer_steps::tests::is_untaken`.
use mathlib.Core.Path.{◌≡◌}
use mathlib.Core.Bool.{true, ◌&&◌, ◌||◌, not}
use Prim.Native.Nat.{◌-◌, ◌≤◌}
use lib.Dec.{eqb, leb}
use Rattle.lists.specs.Range.{every}
use Rattle.theory_team.specs.State.{State}
use Rattle.answer_steps.specs.Tables.{Shows}
use Rattle.answer_steps.proofs.tests.is_untaken.Given as goal

abbrev pub invariant-loop-t : goal.invariant-loop-t
invariant-loop-t l =
    (l.t ≤ l.m) × ((σ : State) → Shows σ l.team → every l.t (λ j. leb (σ.encounters j l.c) l.instance && (not (eqb (σ.encounters j l.c) l.instance) || not (σ.taken j l.c l.x))) ≡ true)
