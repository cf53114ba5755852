-- The invariants and measures of `check_edges::mark_sections`.
use Prim.Native.Nat.{◌≤◌}
use Rattle.chart.specs.Format.{decode}
use Rattle.chart.specs.Scope.{begin_node, end_node}
use Rattle.check_edges.specs.Tables.{SectionsTo}
use Rattle.check_edges.proofs.mark_sections.Given as goal

abbrev pub invariant-loop-c : goal.invariant-loop-c
invariant-loop-c l =
    (l.c ≤ l.chart.constructs) × SectionsTo (decode l.s) end_node l.c l.marks.from × SectionsTo (decode l.s) begin_node l.c l.marks.to
