-- The invariants and measures of `check_edges::node_scopes`.
use Prim.Native.Nat.{◌≤◌}
use Rattle.chart.specs.Format.{decode}
use Rattle.chart.specs.Scope.{begin_node, end_node}
use Rattle.check_edges.specs.Tables.{no_leaving, no_arriving, ScopesOf, FilledTo}
use Rattle.check_edges.proofs.node_scopes.Given as goal

abbrev pub invariant-loop-c : goal.invariant-loop-c
invariant-loop-c l =
    (l.c ≤ l.chart.constructs) × ScopesOf (FilledTo (decode l.s) end_node l.c) begin_node no_leaving (decode l.s) l.chart.nodes l.scopes.leave
    × ScopesOf (FilledTo (decode l.s) begin_node l.c) end_node no_arriving (decode l.s) l.chart.nodes l.scopes.arrive
