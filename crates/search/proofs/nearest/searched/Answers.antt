-- `search::nearest::searched` meets its contract: the stops have marks, and the levels are those of a search past none of them.
-- Assumes nothing.
use Rattle.search.proofs.Finding.{bounded, leveled-starts}
use Rattle.search.proofs.nearest.searched.Goals as goal

pub search-requires : goal.search-requires
search-requires c =
    let (few, (_, ready)) = c.requires.total_bound in
    let nodes = c.requires.by_index in
    record { total_bound = (few, bounded ready.split ready.begins, c.mark.ensures.levels_len); by_index = nodes }

pub returns : goal.returns
returns c = λ e stops _ T P S. leveled-starts T S P c.mark.ensures.stored c.search.ensures
