-- `call_listing::drawing::draw` meets its contract.
-- Assumes nothing.
use mathlib.Core.Path.{◌≡◌, refl, sym, ap, ◌∙◌}
use native.Mathlib.Omega.{arith}
use Prim.Native.Nat.{suc, ◌+◌}
use Rattle.theory_listing.specs.Tree.{node_count, construct_count}
use Rattle.theory_listing.specs.Grammar.{up_to}
use Rattle.call_listing.proofs.TablesLaws.{same-chart, bytes-made}
use Rattle.call_listing.proofs.drawing.draw.Goals as goal

pub fill_tables-edges-requires : goal.fill_tables-edges-requires
fill_tables-edges-requires c =
    ((c.args.constructs, c.requires.0), refl, refl, refl)

pub overflow_add-chart : goal.overflow_add-chart
overflow_add-chart c =
    omega (arith, c.requires.0.nodes-fit)

pub put_chart-requires : goal.put_chart-requires
put_chart-requires c =
    let fill = c.fill_tables-edges in
    let a = c.args in
    let small = c.requires.0 in
    let full = fill.ensures small.block small.last small.read in (
      c.requires.1,
      (omega arith, omega (arith, small.nodes-fit), omega (arith, full.edges_few), small.constructs-fit),
      (
        omega (arith, small.nodes-fit),
        omega (arith, full.edges_few),
        omega (arith, small.constructs-fit),
      ),
    )

pub returns : goal.returns
returns c =
    let fill = c.fill_tables-edges in
    let a = c.args in
    let small = c.requires.0 in
    let put = c.put_chart in
    λ b last h.
    let q : up_to small.block small.last ≡ up_to b last = sym small.read ∙ h in
    let same : small.block ≡ b = cc in
    let nodes = small.node-count ∙ ap node_count same in
    let constructs = small.construct-count ∙ ap construct_count same in
    let full = fill.ensures b last h in
    let two : a.nodes + 2 ≡ suc (suc (node_count b)) = omega (arith, nodes) in
    (same-chart refl two full.edge_count constructs refl, bytes-made b a.nodes fill.result a.constructs _ _ _ _ nodes constructs full put.ensures)
