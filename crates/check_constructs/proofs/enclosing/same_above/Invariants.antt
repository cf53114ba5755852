-- The invariants and measures of `check_constructs::enclosing::same_above`.
use Rattle.chart.specs.Format.{decode}
use Rattle.check_constructs.proofs.Ancestors.{Walked, height}
use Rattle.check_constructs.proofs.enclosing.same_above.Given as goal

abbrev pub invariant-loop-p : goal.invariant-loop-p
invariant-loop-p l = Walked (decode l.s).constructs l.c l.p

abbrev pub decreases-loop-p : goal.decreases-loop-p
decreases-loop-p l = height l.p
