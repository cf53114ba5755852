-- `search::search::spread` meets its contract, whichever way it takes.
-- Assumes nothing.
use native.Mathlib.Omega.{arith}
use Rattle.search.specs.SweepLaws.{carried-long}
use Rattle.search.proofs.Finding.{spread-ahead, spread-behind}
use Rattle.search.proofs.Leveling.{leveled-ahead}
use Rattle.search.proofs.Ranges.{front-below, searches-front}
use Rattle.search.proofs.search.spread.Goals as goal

pub returns-then-close_together : goal.returns-then-close_together
returns-then-close_together c =
    let (ready, own) = c.requires.sown in
    let starts = c.close_together.ensures.shut in
    let ends = c.close_together.ensures.shut_2 in
    let levels = c.close_together.ensures.carried in
    let settled = c.close_together.ensures.closed in record {
      spreads = (λ e stops own T P S w o B v.
          (spread-ahead T w starts.0 starts.1, leveled-ahead T o B levels (settled c.if-close_together.true) c.tell.ensures, spread-behind T v ends.0 ends.1));
      starts_len = carried-long own.long starts.0;
    }

pub returns-else-close_together : goal.returns-else-close_together
returns-else-close_together c =
    let (ready, own) = c.requires.sown in
    let starts = c.close_together.ensures.shut in
    let ends = c.close_together.ensures.shut_2 in record { spreads = (λ e stops own T P S w o B v. (spread-ahead T w starts.0 starts.1, searches-front c.args.nodes.now c.args.extent.barriers (omega arith) c.searched.ensures e stops _ T P S, spread-behind T v ends.0 ends.1)); starts_len = carried-long own.long starts.0 }

pub returns-else-few : goal.returns-else-few
returns-else-few c =
    let measured = c.fewest.ensures in record {
      spreads = (λ e stops own T P S w o B v.
          let near = measured e stops _ T P S o B in
          (c.onward.ensures.goes_on e stops T P S w near, near, c.recede.ensures e stops _ _ T v));
      starts_len = c.onward.ensures.masks_len;
    }

pub searched-requires-clause-by_index : goal.searched-requires-clause-by_index
searched-requires-clause-by_index c = front-below c.args.nodes.now c.args.extent.barriers 192 (omega arith) c.requires.barriers_le_total.2
