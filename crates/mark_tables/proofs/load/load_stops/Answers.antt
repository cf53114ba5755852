-- `mark_tables::load::load_stops` meets its contract: after x turns the stops of the first x nodes stand.
-- Assumes nothing.
use mathlib.Core.Path.{◌≡◌, ◌∙◌}
use Prim.Native.Nat.{ℕ}
use native.Mathlib.Omega.{arith}
use lib.ListN.{length, length-set, length-replicate}
use Rattle.lists.specs.Store.{written_none, written-more, written_all}
use Rattle.chart.specs.Format.{decode}
use Rattle.chart.proofs.Records.{nodes-length}
use Rattle.mark_tables.proofs.Accepted.{region-byte}
use Rattle.mark_tables.proofs.Loading.{stop-byte, stop-past}
use Rattle.mark_tables.proofs.load.load_stops.Goals as goal

pub region_byte-region-requires : goal.region_byte-region-requires
region_byte-region-requires c = region-byte _ c.args.chart c.requires

pub loop-x-init : goal.loop-x-init
loop-x-init c = (omega arith, length-replicate {A = ℕ} 192 0, written_none _ 192)

pub loop-x-preserved : goal.loop-x-preserved
loop-x-preserved c =
    let (below, long, stops) = c.loop-x.invariant in
    let fits = c.requires.laid.nodes-most in (
      omega arith,
      length-set c.loop-x.stops _ _ ∙ long,
      written-more _ (omega arith) (stop-byte _ c.args.chart c.requires c.loop-x.x _ _ _ c.read.ensures.0 c.read.ensures.1
          (rw c.region_byte-region.ensures at c.stop.ensures)) stops,
    )

pub returns : goal.returns
returns c =
    let (below, long, stops) = c.loop-x.invariant in
    let nodes = (decode c.args.s.now).nodes in
    let q : length nodes ≡ c.loop-x.x = omega (arith, nodes-length _ c.args.chart c.requires.laid) in
    record { long = long; at = written_all stops (λ j m. stop-past _ c.args.chart c.requires j (omega arith)) }
