-- `search::breadth::expand` meets its contract: the loop's invariant is the `Run` so far. Assumes nothing.
use native.Mathlib.Omega.{arith}
use Prim.Native.Nat.{◌+◌}
use mathlib.Core.Path.{◌≡◌}
use lib.ListN.{get_or}
use Rattle.search.proofs.Ranges.{range-at}
use Rattle.search.specs.Steps.{none, more}
use Rattle.search.proofs.Visits.{visit-room}
use Rattle.search.proofs.breadth.expand.Goals as goal

pub loop-y-preserved : goal.loop-y-preserved
loop-y-preserved c =
    let (room, run) = c.loop-y.invariant in
    let (_, node, some, table) = c.requires in
    let places = c.args.places.now in
    let a = get_or places c.args.x 0 in
    let b = get_or places (c.args.x + 1) 0 in
    let i = c.loop-y.y-index in
    let at = range-at c.args.values.now a b i (omega (arith, c.loop-y-test.true)) in
    let visited = rw at at c.visit-tail.ensures in
    let e : a + (i + 1) ≡ a + i + 1 = omega arith in
    (visit-room some (table.node (a + i)) room visited, rw e (more run visited))

pub loop-y-init : goal.loop-y-init
loop-y-init c =
    let a = get_or c.args.places.now c.args.x 0 in
    let e : a + 0 ≡ a = omega arith in
    (c.requires.0, rw e none)

pub visit-tail-requires : goal.visit-tail-requires
visit-tail-requires c =
    let a = get_or c.args.places.now c.args.x 0 in
    let at = range-at c.args.values.now a (get_or c.args.places.now (c.args.x + 1) 0) c.loop-y.y-index (omega (arith, c.loop-y-test.true)) in
    (c.loop-y.invariant.0, rw at (c.requires.3.node (a + c.loop-y.y-index)))
