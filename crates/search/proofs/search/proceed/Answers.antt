-- `search::search::proceed` meets its contract: sweeps along the edges between nodes that may be passed.
-- Assumes nothing.
use Rattle.search.proofs.Splitting.{lists-ahead}
use Rattle.search.proofs.Finding.{spread-ahead}
use Rattle.search.proofs.search.proceed.Goals as goal

pub close-requires : goal.close-requires
close-requires c =
    let (e, stops, T) = c.requires.table in
    let (long, fits) = c.requires.masks_len in
    record { lists = (lists-ahead T.plain T.few, long); by_index = fits }

pub returns : goal.returns
returns c = λ e stops sources total T w. spread-ahead T w c.close.ensures.carried c.close.ensures.closed
