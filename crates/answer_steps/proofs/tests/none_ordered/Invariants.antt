-- The invariants and measures of `answer_steps::tests::none_ordered`.
use mathlib.Core.Path.{◌≡◌}
use mathlib.Core.Bool.{true, ◌||◌, not}
use Prim.Native.Nat.{◌-◌, ◌≤◌}
use lib.Dec.{eqb}
use Rattle.lists.specs.Range.{every}
use Rattle.chart.specs.Region.{Region}
use Rattle.theory_team.specs.State.{State}
use Rattle.theory_answers.specs.Answer.{in_ordered_of}
use Rattle.answer_steps.specs.Tables.{Tabled, Shows}
use Rattle.answer_steps.proofs.tests.none_ordered.Given as goal

abbrev pub invariant-loop-k : goal.invariant-loop-k
invariant-loop-k l =
    (l.k ≤ l.m) × ((R : Region) (σ : State) → Tabled R l.table → Shows σ l.team → every l.k (λ j. eqb j l.t || (not (in_ordered_of R (σ.node j) l.d) || not (eqb (σ.encounters j l.d) (σ.encounters l.t l.d)))) ≡ true)
