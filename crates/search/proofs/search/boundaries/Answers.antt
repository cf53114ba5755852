-- `search::search::boundaries` meets its contract: both ways from the stops' own edges on, and the ends cleared at the stops.
-- Assumes nothing.
use native.Mathlib.Omega.{arith}
use Rattle.search.proofs.Finding.{sown-ahead, cleared-ends}
use Rattle.search.proofs.Ranges.{sowed-front, arrives-front, stored-front}
use Rattle.search.proofs.search.boundaries.Goals as goal

pub spread-requires : goal.spread-requires
spread-requires c =
    let (order, few, starts, ends, ready) = c.requires.barriers_le_total in
    let nodes = c.requires.by_index in record { barriers_le_total = (order, few, nodes, (_, c.depart.ensures.each)); sown = (ready, sown-ahead ready.split ready.begins c.depart_more.ensures); ends_len = c.arrive.ensures.masks_len }

pub returns : goal.returns
returns c =
    let nodes = c.args.nodes.now in
    let n = c.args.extent.barriers in
    let sowed = sowed-front nodes n (omega arith) c.depart.ensures.sowed in
    let arrives = arrives-front nodes n (omega arith) c.arrive.ensures.arrives in
    let cleared = stored-front nodes n (omega arith) c.clear.ensures in
    record {
      boundaries = (λ e stops T P S.
          let (s, d, t) = c.spread.ensures.spreads e stops _ T P S (sown-ahead T P c.depart_more.ensures) (sown-ahead T P sowed)
          c.depart.ensures.each (arrives e stops T S) in
          (s, d, cleared-ends T S t cleared));
      starts_len = c.spread.ensures.starts_len;
    }
