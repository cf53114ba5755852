-- The invariants and measures of `check_nodes::nodes::any_doubtful`.
use mathlib.Core.Path.{◌≡◌}
use Prim.Native.Nat.{◌≤◌}
use lib.ListN.{length}
use Rattle.lists.specs.Range.{any}
use Rattle.chart.specs.Format.{decode}
use Rattle.check_nodes.specs.Parts.{doubtful_at}
use Rattle.check_nodes.proofs.nodes.any_doubtful.Given as goal

abbrev pub invariant-loop-x : goal.invariant-loop-x
invariant-loop-x l = (l.x ≤ l.chart.nodes) × (l.constructs ≡ length (decode l.s).constructs) × (l.found ≡ any l.x (doubtful_at (decode l.s)))
