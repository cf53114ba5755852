-- `call_edges::splice::lacks_edge` meets its contract.
-- Assumes nothing.
use mathlib.Core.Path.{ap, ◌∙◌}
use Prim.Native.Nat.{ℕ}
use native.Mathlib.Omega.{arith}
use borrow.Author.Tests.{le-leb}
use Rattle.chart.specs.Format.{decode, edge_at}
use Rattle.chart.proofs.Records.{edges-length}
use Rattle.call_edges.proofs.Splicing.{past-edges, stands_there}
use Rattle.call_edges.proofs.splice.lacks_edge.Goals as goal

pub returns-then-chart-place : goal.returns-then-chart-place
returns-then-chart-place c =
    let (L, rising, placed) = c.requires in
    let past = c.if-chart-place.true in
    rw (le-leb _ _ past) (past-edges (decode c.args.s.now).edges rising c.args.edge.from c.args.edge.to (omega (arith, edges-length _ _ L, placed)))

pub returns-else-chart-place : goal.returns-else-chart-place
returns-else-chart-place c =
    let (L, rising, placed) = c.requires in
    let edges = (decode c.args.s.now).edges in
    c.ne.ensures ∙ stands_there edges rising c.args.edge.from c.args.edge.to (omega (arith, edges-length _ _ L, placed, c.if-chart-place.false))
    (c.read.ensures.0 ∙ ap (λ (n : ℕ). (edge_at edges n).from) placed) (c.read.ensures.1 ∙ ap (λ (n : ℕ). (edge_at edges n).to) placed)
