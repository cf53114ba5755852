-- `search::search::arrive` meets its contract: the edges to the stops bring back their bits.
-- Assumes nothing.
use native.Mathlib.Omega.{arith}
use Rattle.search.specs.Parts.{row}
use Rattle.search.proofs.Finding.{fed-fits, sown-behind}
use Rattle.search.proofs.Ranges.{front-below, fed-front}
use Rattle.search.proofs.search.arrive.Goals as goal

pub returns : goal.returns
returns c =
    let (few, blank, sources) = c.requires.total_bound in
    let edges = c.args.edges.now in
    let n = c.args.parts.ins in
    record {
      arrives = (λ e stops T S. sown-behind T S blank c.stand.ensures (fed-front (row edges 5) (row edges 4) n c.feed.ensures (omega (arith, T.come.few, T.few, T.come.long-t))));
      masks_len = fed-fits blank few c.stand.ensures c.feed.ensures;
    }

pub feed-requires-clause-by_index : goal.feed-requires-clause-by_index
feed-requires-clause-by_index c = front-below (row c.args.edges.now 5) c.args.parts.ins 192 (omega arith) c.requires.table.2.come.node-t

pub feed-requires-clause-by_index_2 : goal.feed-requires-clause-by_index_2
feed-requires-clause-by_index_2 c = front-below (row c.args.edges.now 4) c.args.parts.ins 192 (omega arith) c.requires.table.2.come.node-s
