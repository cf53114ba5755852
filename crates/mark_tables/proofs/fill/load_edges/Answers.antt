-- `mark_tables::fill::load_edges` meets its contract: the outermost region keeps each edge.
-- Assumes nothing.
use mathlib.Core.Path.{◌≡◌, ◌∙◌}
use mathlib.Core.Bool.{true}
use Rattle.std.proofs.Common.{rules}
use Rattle.chart.specs.Format.{decode}
use Rattle.mark_tables.proofs.Tabling.{keeps-all}
use Rattle.mark_tables.proofs.fill.load_edges.Goals as goal

pub take_edges-requires-clause-keeps : goal.take_edges-requires-clause-keeps
take_edges-requires-clause-keeps c = λ n r p.
    let q : r ≡ true = search rules in
    q ∙ keeps-all (decode c.args.s.now) _ n c.if-chart-eq-OUTERMOST.true
