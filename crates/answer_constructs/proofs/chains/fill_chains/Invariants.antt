-- The invariants and measures of `answer_constructs::chains::fill_chains`.
use Prim.Native.Nat.{◌≤◌}
use Rattle.chart.specs.Format.{decode}
use Rattle.chart.specs.Checked.{reading}
use Rattle.chart.proofs.RegionFacts.{Counts}
use Rattle.answer_constructs.specs.Chains.{Known, Chains}
use Rattle.answer_constructs.proofs.chains.fill_chains.Given as goal

abbrev pub invariant-loop-c : goal.invariant-loop-c
invariant-loop-c l = (l.c ≤ l.chart.constructs) × Known (decode l.s).constructs l.known × Chains (reading l.s l.chart) (Counts (decode l.s) l.chart.region) l.c l.held
