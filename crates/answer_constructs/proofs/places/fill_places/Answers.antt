-- `answer_constructs::places::fill_places` meets its contract. The loop's invariant: the places of the constructs passed are there.
-- Assumes nothing.
use Prim.Native.Nat.{◌<◌}
use native.Mathlib.Omega.{arith}
use lib.ListN.{length}
use Rattle.chart.specs.Format.{decode}
use Rattle.chart.specs.Scope.{parent_of}
use Rattle.chart.proofs.Records.{constructs-length}
use Rattle.answer_constructs.proofs.Constructs.{parent-lower}
use Rattle.answer_constructs.proofs.Laying.{places-more, parent-found}
use Rattle.answer_constructs.proofs.places.fill_places.Goals as goal

pub loop-c-preserved : goal.loop-c-preserved
unfolding parent_of
loop-c-preserved c =
    let low : c.loop-c.c < 48 =
    omega (arith, c.requires.0.laid.constructs-most, c.loop-c-test.true) in
    let k = c.loop-c.c in
    let l : k < length (decode c.args.s.now).constructs = omega (arith, constructs-length _ c.args.chart c.requires.0.laid, c.loop-c-test.true) in
    let above = parent-found (parent-lower _ c.args.chart c.requires.0 k l) low c.loop-c.invariant.1 in
    (omega arith, rw (c.read-construct.ensures.1, above) (places-more c.loop-c.invariant.1 low))
