-- `search::search::depart_more` meets its contract: the further sources' bits are sown along their edges too.
-- Assumes nothing.
use mathlib.Core.Path.{sym}
use native.Mathlib.Omega.{arith}
use lib.Seq.{length-take-le}
use Rattle.search.proofs.Finding.{bounded}
use Rattle.search.proofs.Ranges.{front-below, front-same, sowed-same, sowed-front}
use Rattle.search.proofs.search.depart_more.Goals as goal

pub sow-requires : goal.sow-requires
sow-requires c =
    let (order, few, ready) = c.requires.barriers_le_total in
    let nodes = c.args.sources.now in
    let n = c.args.extent.total in
    let long = length-take-le n nodes (omega arith) in
    let (sowed, begun) = c.requires.sowed in
    record {
      first_le_total = (rw long order, rw long few, bounded ready.split ready.begins);
      sowed = (sowed-same (λ b l. sym (front-same nodes n b (omega arith))) sowed, begun);
      by_index = front-below nodes n 192 (omega arith) c.requires.by_index;
    }

pub returns : goal.returns
returns c = sowed-front c.args.sources.now c.args.extent.total (omega arith) c.sow.ensures.sowed_2
