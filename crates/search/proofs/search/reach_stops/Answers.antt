-- `search::search::reach_stops` meets its contract: what the starts bring to the stops, which keep none of their own.
-- Assumes nothing.
use native.Mathlib.Omega.{arith}
use Rattle.search.specs.Parts.{row}
use Rattle.search.proofs.Finding.{marked-starts}
use Rattle.search.proofs.Ranges.{front-below, stored-front, fed-front}
use Rattle.search.proofs.search.reach_stops.Goals as goal

pub returns : goal.returns
returns c = λ e stops T S w.
    let edges = c.args.edges.now in
    let n = c.args.extent.parts.ins in
    let cleared = stored-front c.args.nodes.now c.args.extent.barriers (omega arith) c.clear.ensures in
    marked-starts T S w cleared (fed-front (row edges 4) (row edges 5) n c.feed.ensures (omega (arith, T.come.few, T.few, T.come.long-s)))

pub feed-requires-clause-by_index_2 : goal.feed-requires-clause-by_index_2
feed-requires-clause-by_index_2 c = front-below (row c.args.edges.now 5) c.args.extent.parts.ins 192 (omega arith) c.requires.3.2.come.node-t

pub clear-requires : goal.clear-requires
clear-requires c = front-below c.args.nodes.now c.args.extent.barriers 192 (omega arith) c.requires.1

pub feed-requires-clause-by_index : goal.feed-requires-clause-by_index
feed-requires-clause-by_index c = front-below (row c.args.edges.now 4) c.args.extent.parts.ins 192 (omega arith) c.requires.3.2.come.node-s
