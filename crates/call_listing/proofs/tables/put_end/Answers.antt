-- `call_listing::tables::put_end` meets its contract.
-- Assumes nothing.
use Prim.Native.Nat.{◌+◌, ◌%◌}
use native.Mathlib.Omega.{arith}
use Rattle.theory_listing.specs.Tree.{stop, closes}
use Rattle.call_listing.proofs.Parts.{kind-stop, kind-closes}
use Rattle.call_listing.proofs.Ending.{end-alone, end-followed}
use Rattle.call_listing.proofs.tables.put_end.Goals as goal

pub returns-then-spot-n : goal.returns-then-spot-n
returns-then-spot-n c w q =
    let spot = c.args.spot in
    end-alone spot.owner spot.part c.args.k spot.follow (spot.node + c.args.n) w (spot.part % 256) (omega (arith, c.requires.3)) q c.if-spot-n.true
    (c.put_cell.ensures closes spot.owner kind-closes)

pub put_cell-requires-2 : goal.put_cell-requires-2
put_cell-requires-2 c =
    let few = (c.put_cell-e.ensures closes 0 kind-closes).edges_few in
    (omega (arith, c.requires.1, c.requires.5, c.if-spot-n.false), omega (arith, c.requires.1, c.requires.4, c.requires.6, c.if-spot-n.false, few), omega (arith, c.requires.1, c.if-spot-n.false), omega (arith, c.requires.2), omega (arith, c.requires.2))

pub returns : goal.returns
returns c w q =
    let spot = c.args.spot in
    end-followed spot.owner spot.part c.args.k spot.follow (spot.node + c.args.n) w (spot.part % 256) (omega (arith, c.requires.3)) q (omega (arith, c.if-spot-n.false))
    (c.put_cell-e.ensures closes spot.owner kind-closes) (c.put_cell-2.ensures stop spot.owner kind-stop)
