-- `mark_tables::closed::closed_at` meets its contract.
-- Assumes nothing.
use Prim.Native.Nat.{◌<◌}
use native.Mathlib.Omega.{arith}
use lib.ListN.{length}
use Rattle.chart.specs.Format.{decode}
use Rattle.chart.proofs.Records.{nodes-length}
use Rattle.mark_tables.proofs.Accepted.{region-byte}
use Rattle.mark_tables.proofs.Loading.{stop-byte}
use Rattle.mark_tables.proofs.Cutting.{stop-closed, closed-turn}
use Rattle.mark_tables.proofs.closed.closed_at.Goals as goal

pub region_byte-region-requires : goal.region_byte-region-requires
region_byte-region-requires c = region-byte _ c.args.chart c.requires.0

pub returns-then-chart-eq-OUTERMOST : goal.returns-then-chart-eq-OUTERMOST
returns-then-chart-eq-OUTERMOST c =
    let below : c.args.x < length (decode c.args.s.now).nodes =
    omega (arith, nodes-length _ c.args.chart c.requires.0.laid, c.requires.1) in
    rw (stop-closed _ c.args.chart c.args.x c.if-chart-eq-OUTERMOST.true below)
    (stop-byte _ c.args.chart c.requires.0 c.args.x _ _ _ c.read-node.ensures.0 c.read-node.ensures.1 (rw c.region_byte-region.ensures at c.stop.ensures))

pub returns : goal.returns
returns c =
    let below : c.args.x < length (decode c.args.s.now).nodes =
    omega (arith, nodes-length _ c.args.chart c.requires.0.laid, c.requires.1) in
    closed-turn _ c.args.chart c.requires.0 c.if-chart-eq-OUTERMOST.false c.args.x _ _ _ _ below c.read-node.ensures.0 c.read-node.ensures.1 c.within.ensures
    (rw c.region_byte-region.ensures at c.shut.ensures)
