-- The invariants and measures of `check_constructs::stray::stray_nodes`.
use mathlib.Core.Bool.{cond}
use mathlib.Core.Path.{◌≡◌}
use Prim.Native.Nat.{◌≤◌}
use Rattle.lists.specs.Range.{any}
use Rattle.chart.specs.Format.{decode}
use Rattle.chart.specs.Refusal.{stray_node}
use Rattle.check_constructs.proofs.stray.stray_nodes.Given as goal

abbrev pub invariant-loop-x : goal.invariant-loop-x
invariant-loop-x l = (l.x ≤ l.chart.nodes) × (l.found ≡ cond (any l.x (stray_node (decode l.s))) 1 0)
