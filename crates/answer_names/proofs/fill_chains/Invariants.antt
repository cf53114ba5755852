-- The invariants and measures of `answer_names::fill_chains`.
use Prim.Native.Nat.{◌≤◌}
use Rattle.chart.specs.Checked.{reading}
use Rattle.answer_names.specs.Names.{Chained}
use Rattle.answer_names.proofs.fill_chains.Given as goal

abbrev pub invariant-loop-c : goal.invariant-loop-c
invariant-loop-c l = (l.c ≤ l.chart.constructs) × Chained (reading l.s l.chart) l.given l.c l.chains
