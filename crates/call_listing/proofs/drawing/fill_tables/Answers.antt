-- `call_listing::drawing::fill_tables` meets its contract.
-- Assumes nothing.
use mathlib.Core.Path.{◌≡◌, sym, ap, ◌∙◌}
use Prim.Native.Nat.{suc, ◌+◌}
use native.Mathlib.Omega.{arith}
use lib.ListN.{length}
use Rattle.theory_listing.specs.Tree.{node_count, stop}
use Rattle.theory_listing.specs.Grammar.{up_to}
use Rattle.call_listing.proofs.Parts.{kind-stop}
use Rattle.call_listing.proofs.Begins.{ahead-first, ahead-most}
use Rattle.call_listing.proofs.TablesLaws.{listed-read, tables-made}
use Rattle.call_listing.proofs.drawing.fill_tables.Goals as goal

pub overflow_add-finish : goal.overflow_add-finish
overflow_add-finish c =
    let a = c.args in
    let small = c.requires.0.1 in
    omega (arith, small.nodes-fit)

pub put_cell-edge-requires : goal.put_cell-edge-requires
put_cell-edge-requires c =
    let a = c.args in
    let small = c.requires.0.1 in
    let ahead = c.ahead-first in
    let most = ahead-most a.text.now 0 1 (a.count + 1) 191 ahead.result ahead.ensures (omega arith) (omega (arith, small.nodes-fit)) in
    (omega (arith, c.requires.1), omega (arith, c.requires.2), omega arith, omega (arith, most), omega (arith, most))

pub fill_block-all-requires : goal.fill_block-all-requires
fill_block-all-requires c =
    let a = c.args in
    let small = c.requires.0.1 in
    let cell = c.put_cell-edge.ensures stop 0 kind-stop in (
      record {
        fuel = suc (length a.text.now);
        block = small.block;
        last = small.last;
        enough = omega arith;
        read = listed-read a.text.now small.block small.last small.read;
        nodes-fit = omega (arith, small.node-count, small.nodes-fit);
        parts-fit = omega (arith, small.construct-count, small.constructs-fit);
      },
      (
        omega (arith, c.requires.1),
        omega (arith, c.requires.2),
        omega (arith, c.requires.3),
        omega (arith, small.nodes-fit),
        omega (arith, cell.edges_few),
      ),
    )

pub put_record-requires : goal.put_record-requires
put_record-requires c =
    let a = c.args in
    let small = c.requires.0.1 in
    omega (arith, c.requires.1, small.nodes-fit)

pub returns : goal.returns
returns c =
    let a = c.args in
    let small = c.requires.0.1 in
    let text = a.text.now in
    let f = a.count + 1 in
    let ahead = c.ahead-first in
    let cell = c.put_cell-edge in
    let fill = c.fill_block-all in
    let last-put = c.put_record in
    λ b last h.
    let q : up_to small.block small.last ≡ up_to b last = sym small.read ∙ h in
    let same : small.block ≡ b = cc in
    let count : node_count small.block ≡ node_count b = ap node_count same in
    let read = listed-read text b last h in
    let filled = fill.ensures (suc (length text)) b last (omega arith) read in
    let way = ahead.ensures ∙ ahead-first text 16 0 b last (suc (length text)) (omega arith) read 1 f in
    rw (← (small.node-count ∙ count)) at
    (tables-made b ahead.result f cell.result fill.result _ _ a.parts.now _ _ _ _ _ _ (omega (arith, count, small.node-count, small.nodes-fit)) (omega (arith, count, small.node-count)) way
    (cell.ensures stop 255 kind-stop) filled.0 filled.1 last-put.ensures)
