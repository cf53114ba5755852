-- The invariants and measures of `mark_tables::fill::take_edges`.
use Prim.Native.Nat.{◌≤◌}
use Rattle.chart.specs.Format.{decode}
use Rattle.mark_tables.proofs.Tabling.{Tabling}
use Rattle.mark_tables.proofs.fill.take_edges.Given as goal

abbrev pub invariant-loop-i : goal.invariant-loop-i
invariant-loop-i g l =
    (l.i ≤ l.chart.edges) × Tabling (decode l.s) l.chart.region l.i l.stops l.table l.loaded.edges l.loaded.parts
