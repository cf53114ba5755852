-- The invariants and measures of `check_nodes::counts::count_barriers`.
use Prim.Native.Nat.{◌≤◌}
use lib.Dec.{leb}
use Rattle.chart.specs.Format.{decode}
use Rattle.chart.specs.Scope.{barrier_node}
use Rattle.check_nodes.specs.Counted.{Counted}
use Rattle.check_nodes.proofs.counts.count_barriers.Given as goal

abbrev pub invariant-loop-x : goal.invariant-loop-x
invariant-loop-x l = (l.x ≤ l.chart.nodes) × Counted (decode l.s) (leb barrier_node) l.x l.found
