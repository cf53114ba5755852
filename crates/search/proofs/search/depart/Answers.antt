-- `search::search::depart` meets its contract: the sources' bits are sown along their edges.
-- Assumes nothing.
use native.Mathlib.Omega.{arith}
use Rattle.search.proofs.Finding.{bounded}
use Rattle.search.proofs.Sowing.{begins-none, sowed-none}
use Rattle.search.proofs.search.depart.Goals as goal

pub sow-requires : goal.sow-requires
sow-requires c =
    let (few, blank, (_, ready)) = c.requires.total_bound in
    let sources = c.requires.by_index in
    let T = ready.split in
    record { first_le_total = (omega arith, few, bounded T ready.begins); sowed = (rw blank (sowed-none _ _ _), rw blank begins-none); by_index = sources }
