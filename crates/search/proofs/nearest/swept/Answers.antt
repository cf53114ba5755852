-- `search::nearest::swept` meets its contract: sweeps, then the levels as they are told.
-- Assumes nothing.
use Rattle.search.proofs.Splitting.{lists-ahead}
use Rattle.search.proofs.Leveling.{begins-fit, leveled-ahead}
use Rattle.search.proofs.nearest.swept.Goals as goal

pub measure-settled-requires : goal.measure-settled-requires
measure-settled-requires c =
    let (e, stops, T) = c.requires.table in
    let (masks, B) = c.requires.by_index in
    record { lists = (lists-ahead T.plain T.few, B.long); by_index = begins-fit B }

pub returns : goal.returns
returns c = λ settled e stops sources masks total T w B.
    leveled-ahead T w B c.measure-settled.ensures.carried (c.measure-settled.ensures.closed settled) c.tell.ensures
