-- `masks::unions::add` meets its contract: the bits that are left wait, and for the others the set is added.
-- Assumes nothing.
use Rattle.masks.proofs.Passes.{adding-more}
use Rattle.masks.proofs.unions.add.Goals as goal

pub loop-rest-preserved : goal.loop-rest-preserved
loop-rest-preserved c = adding-more _ c.loop-rest.invariant c.lowest-b.ensures
