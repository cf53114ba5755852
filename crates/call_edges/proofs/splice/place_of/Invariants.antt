-- The invariants and measures of `call_edges::splice::place_of`.
use mathlib.Core.Path.{◌≡◌}
use Prim.Native.Nat.{◌≤◌}
use Rattle.lists.specs.Range.{count}
use Rattle.chart.specs.Format.{decode, edge_at}
use Rattle.chart.specs.Refusal.{rises}
use Rattle.call_edges.proofs.splice.place_of.Given as goal

abbrev pub invariant-loop-i : goal.invariant-loop-i
invariant-loop-i l =
    (l.sum ≤ l.i) × (l.sum ≡ count l.i (λ k. rises (edge_at (decode l.s).edges k).from (edge_at (decode l.s).edges k).to l.edge.from l.edge.to))
