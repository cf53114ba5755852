-- The invariants and measures of `answer_steps::columns::fill_above`.
use Prim.Native.Nat.{◌-◌, ◌≤◌}
use Rattle.chart.specs.Format.{decode}
use Rattle.answer_steps.specs.Words.{Above}
use Rattle.answer_steps.proofs.columns.fill_above.Given as goal

abbrev pub invariant-loop-c : goal.invariant-loop-c
invariant-loop-c l = (l.c ≤ l.chart.constructs) × Above (decode l.s) l.c l.above
