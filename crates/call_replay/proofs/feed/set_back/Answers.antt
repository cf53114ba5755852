-- `call_replay::feed::set_back` meets its contract. The loop's invariant: the threads passed are set back.
-- Assumes nothing.
use mathlib.Core.Path.{◌≡◌}
use native.Mathlib.Omega.{arith}
use Rattle.call_replay.proofs.Releases.{back_none, back_more}
use Rattle.call_replay.proofs.feed.set_back.Goals as goal

pub loop-thread-init : goal.loop-thread-init
loop-thread-init c = back_none _ _

pub loop-thread-preserved : goal.loop-thread-preserved
loop-thread-preserved c =
    let B = c.loop-thread.invariant in
    back_more (omega (arith, B.long, c.requires.0)) c.requires.0 B

pub returns : goal.returns
returns c =
    let q : c.loop-thread.thread-index ≡ 8 = omega arith in
    rw q at c.loop-thread.invariant
