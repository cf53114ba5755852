-- `mark_tables::closed::load_closed` meets its contract.
-- Assumes nothing.
use Rattle.mark_tables.proofs.Cutting.{stops-closed}
use Rattle.mark_tables.proofs.closed.load_closed.Goals as goal

pub returns-then-chart-eq-OUTERMOST : goal.returns-then-chart-eq-OUTERMOST
returns-then-chart-eq-OUTERMOST c = stops-closed _ c.args.chart _ c.if-chart-eq-OUTERMOST.true c.load_stops.ensures
