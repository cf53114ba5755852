-- `masks::unions::join` meets its contract: the bits that are left wait, and the sets of the others are in the union.
-- Assumes nothing.
use Rattle.masks.proofs.Passes.{joining-more}
use Rattle.masks.proofs.unions.join.Goals as goal

pub loop-rest-preserved : goal.loop-rest-preserved
loop-rest-preserved c =
    let lowest = c.lowest-k.ensures in
    (joining-more _ c.loop-rest.invariant.0 lowest, joining-more _ c.loop-rest.invariant.1 lowest, joining-more _ c.loop-rest.invariant.2 lowest)
