-- `search::waiting::pass_on` meets its contract: the loop's invariant is the `Walk` so far. Assumes nothing.
use Prim.Native.Nat.{◌≤◌, ◌-◌}
use native.Mathlib.Omega.{arith}
use lib.ListN.{get_or}
use Rattle.search.specs.Waiting.{none, more}
use Rattle.search.proofs.Waits.{walk-fits}
use Rattle.search.proofs.waiting.pass_on.Goals as goal

pub loop-j-init : goal.loop-j-init
loop-j-init c = (c.requires.fits.1, c.requires.fits.0.room, none)

pub visit-waiting-requires : goal.visit-waiting-requires
visit-waiting-requires c =
    (walk-fits c.loop-j.invariant.2 c.requires.fits.0, c.requires.by_index.0 (c.loop-j.j - 1))

pub loop-j-preserved : goal.loop-j-preserved
loop-j-preserved c =
    let back : (get_or c.args.before.now (c.loop-j.j - 1) 0 ≤ c.loop-j.j - 1) =
    c.requires.by_index.1 (c.loop-j.j - 1) in
    (omega (arith, back), c.visit-waiting.ensures.upper_bound, more {j = c.loop-j.j} (omega arith) c.loop-j.invariant.2 c.visit-waiting.ensures.visited c.visit-waiting.ensures.upper_bound)
