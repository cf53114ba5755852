-- `search::waiting::enter_all` meets its contract: after x turns the first x nodes are held and stand in the ring. Assumes nothing.
use native.Mathlib.Omega.{arith}
use Rattle.search.proofs.Waits.{entering-none, entering-more}
use Rattle.search.proofs.waiting.enter_all.Goals as goal

pub loop-x-init : goal.loop-x-init
loop-x-init c = rw c.requires.0 (entering-none c.requires.1)

pub loop-x-preserved : goal.loop-x-preserved
loop-x-preserved c = entering-more (omega arith) c.loop-x.invariant
