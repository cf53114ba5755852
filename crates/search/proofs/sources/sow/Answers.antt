-- `search::sources::sow` meets its contract: before turn b the bits of the first b sources are sown.
-- Assumes nothing.
use Prim.Native.Nat.{◌+◌}
use native.Mathlib.Omega.{arith}
use lib.ListN.{get_or}
use Rattle.search.proofs.Ranges.{range-below, fed-range}
use Rattle.search.proofs.Sowing.{sowed-turn}
use Rattle.search.proofs.sources.sow.Goals as goal

pub loop-b-preserved : goal.loop-b-preserved
loop-b-preserved c =
    let places = c.args.places.now in
    let x = get_or c.args.sources.now c.loop-b.b 0 in
    let (rise, most) = c.requires.first_le_total.2.place x (c.requires.by_index c.loop-b.b) in
    let fed = fed-range c.args.values.now (get_or places x 0) (get_or places (x + 1) 0) c.sow_edges.ensures.fed (omega (arith, c.told-values, most)) in
    (sowed-turn c.loop-b.invariant.0 (rw c.bit.ensures at fed), c.sow_edges.ensures.each)

pub sow_edges-requires-clause-by_index : goal.sow_edges-requires-clause-by_index
sow_edges-requires-clause-by_index c =
    let places = c.args.places.now in
    let x = get_or c.args.sources.now c.loop-b.b 0 in
    range-below c.args.values.now (get_or places x 0) (get_or places (x + 1) 0) 192 (omega arith) c.requires.first_le_total.2.node
