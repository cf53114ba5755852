-- `search::nearest::fewest` meets its contract, whichever way it takes. Assumes nothing.
use native.Mathlib.Omega.{arith}
use Rattle.search.proofs.Ranges.{front-below, searches-front}
use Rattle.search.proofs.nearest.fewest.Goals as goal

pub returns-then-far : goal.returns-then-far
returns-then-far c = λ e stops masks T P S w B.
    searches-front c.args.nodes.now c.args.extent.barriers (omega arith) c.searched.ensures e stops _ T P S

pub searched-requires-clause-by_index : goal.searched-requires-clause-by_index
searched-requires-clause-by_index c = front-below c.args.nodes.now c.args.extent.barriers 192 (omega arith) c.requires.by_index
