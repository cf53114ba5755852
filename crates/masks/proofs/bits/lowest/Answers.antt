-- `masks::bits::lowest` meets its contract.
-- Assumes nothing.
use Rattle.lists.specs.Lowest.{lowest}
use Rattle.masks.proofs.bits.lowest.Goals as goal

pub returns : goal.returns
returns c = lowest 64 c.args.mask c.requires c.ranges.mask.fits
