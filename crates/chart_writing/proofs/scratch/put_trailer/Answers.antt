-- `chart_writing::scratch::put_trailer` meets its contract.
-- Assumes nothing.
use native.Mathlib.Nat.{add_assoc}
use lib.ListN.{take}
use Rattle.chart_writing.specs.Trailer.{trailer_for}
use Rattle.chart_writing.specs.ScratchTrailer.{count_bytes, distance_bytes}
use Rattle.chart_writing.proofs.Putting.{chained}
use Rattle.chart_writing.proofs.scratch.put_trailer.Goals as goal

pub returns : goal.returns
unfolding trailer_for
returns c =
    let chart = c.args.chart in
    rw (add_assoc c.args.at 8 8) at (chained (take c.args.at c.args.out.now) (count_bytes chart) (distance_bytes chart) c.put_counts.ensures c.put_distances.ensures)
