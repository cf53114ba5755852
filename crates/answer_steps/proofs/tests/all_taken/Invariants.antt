-- The invariants and measures of `answer_steps::tests::all_taken`.
use Prim.Native.Nat.{◌-◌, ◌≤◌}
use Rattle.lists.specs.Range.{every}
use Rattle.chart.specs.Region.{Region}
use Rattle.theory_team.specs.State.{State}
use Rattle.answer_steps.specs.Tables.{Tabled, Shows, untaken_by, TakenIn}
use Rattle.answer_steps.proofs.tests.all_taken.Given as goal

abbrev pub invariant-loop-t : goal.invariant-loop-t
invariant-loop-t l =
    (l.t ≤ l.m) × ((R : Region) (σ : State) → Tabled R l.table → Shows σ l.team → TakenIn R l.c l.taken (λ x. every l.t (untaken_by σ l.c l.instance x)))
