-- `check_bare::highest_node` meets its contract.
-- Assumes nothing.
use native.Mathlib.Omega.{arith}
use Rattle.check_bare.proofs.Places.{highest-none, highest-more}
use Rattle.check_bare.proofs.highest_node.Goals as goal

pub loop-k-init : goal.loop-k-init
loop-k-init c = (omega arith, highest-none _)

pub loop-k-preserved : goal.loop-k-preserved
loop-k-preserved c =
    (omega arith, rw (c.max-high.ensures, c.at_even-in-loop-k.ensures, c.at_even.ensures, c.tell_node.ensures) (highest-more c.loop-k.invariant.1))
