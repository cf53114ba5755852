-- `search::sources::stand` meets its contract: after b turns the first b sources have their bits.
-- Assumes nothing.
use Rattle.search.proofs.Feeding.{owned-none, owned-turn}
use Rattle.search.proofs.sources.stand.Goals as goal

pub loop-b-init : goal.loop-b-init
loop-b-init c = owned-none _

pub loop-b-preserved : goal.loop-b-preserved
loop-b-preserved c = rw c.bit.ensures (owned-turn (c.requires.by_index c.loop-b.b) c.loop-b.invariant)
