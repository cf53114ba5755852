-- The invariants and measures of `check_nodes::counts::count_outermost`.
use mathlib.Core.Path.{◌≡◌}
use Prim.Native.Nat.{◌≤◌}
use Rattle.lists.specs.Range.{count}
use Rattle.chart.specs.Format.{outside, decode}
use Rattle.chart.specs.Refusal.{barrier_of}
use Rattle.check_nodes.proofs.counts.count_outermost.Given as goal

abbrev pub invariant-loop-x : goal.invariant-loop-x
invariant-loop-x l = (l.x ≤ l.chart.nodes) × (l.found ≡ count l.x (barrier_of (decode l.s).nodes outside))
