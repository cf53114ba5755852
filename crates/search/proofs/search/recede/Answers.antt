-- `search::search::recede` meets its contract: sweeps along the edges turned round.
-- Assumes nothing.
use Rattle.search.proofs.Splitting.{lists_back}
use Rattle.search.proofs.Finding.{spread-behind}
use Rattle.search.proofs.search.recede.Goals as goal

pub close-requires : goal.close-requires
close-requires c =
    let (e, stops, T) = c.requires.table in
    let (long, fits) = c.requires.masks_len in
    record { lists = (lists_back T.plain T.few, long); by_index = fits }

pub returns : goal.returns
returns c = λ e stops sources total T w. spread-behind T w c.close.ensures.carried c.close.ensures.closed
