-- `call_replay::feed::set_all_back` meets its contract. The loop's invariant: the constructs passed are set back.
-- Assumes nothing.
use mathlib.Core.Path.{◌≡◌}
use Prim.Native.Nat.{◌-◌}
use native.Mathlib.Omega.{arith}
use lib.Bits.{and_le_r}
use Rattle.lists.specs.Bits.{has-below}
use Rattle.call_replay.proofs.Releases.{setting-none, setting-more, setting-all}
use Rattle.call_replay.proofs.feed.set_all_back.Goals as goal

pub loop-rest-init : goal.loop-rest-init
loop-rest-init c = setting-none c.requires.1

pub set_back-requires : goal.set_back-requires
set_back-requires c =
    let G = c.loop-rest.invariant in
    (G.long, has-below c.loop-rest.rest 48 c.lowest.result G.waits c.lowest.ensures.own)

pub loop-rest-smaller : goal.loop-rest-smaller
loop-rest-smaller c =
    let rest = c.loop-rest.rest in
    omega (arith, and_le_r rest (rest - 1))

pub loop-rest-preserved : goal.loop-rest-preserved
loop-rest-preserved c =
    let G = c.loop-rest.invariant in
    setting-more G (has-below c.loop-rest.rest 48 c.lowest.result G.waits c.lowest.ensures.own) c.lowest.ensures c.set_back.ensures

pub returns : goal.returns
returns c =
    let none : c.loop-rest.rest ≡ 0 = omega arith in
    setting-all (rw none at c.loop-rest.invariant)
