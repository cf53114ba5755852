-- The invariants and measures of `check_edges::number_scopes`.
use Prim.Native.Nat.{◌≤◌}
use Rattle.chart.specs.Format.{decode}
use Rattle.chart.specs.Scope.{begin_node, end_node}
use Rattle.check_edges.specs.Tables.{no_leaving, no_arriving, ScopesOf, FilledTo}
use Rattle.check_edges.proofs.number_scopes.Given as goal

abbrev pub invariant-loop-x : goal.invariant-loop-x
invariant-loop-x l =
    (l.x ≤ l.chart.nodes) × ScopesOf (FilledTo (decode l.s) end_node 0) begin_node no_leaving (decode l.s) l.x l.scopes.leave
    × ScopesOf (FilledTo (decode l.s) begin_node 0) end_node no_arriving (decode l.s) l.x l.scopes.arrive
