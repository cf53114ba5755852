-- `chart::format::Edge::read` meets its contract.
-- Assumes nothing.
use mathlib.Core.Path.{◌∙◌}
use Rattle.chart.proofs.Records.{edge-fields}
use Rattle.chart.proofs.format.Edge.read.Goals as goal

pub returns : goal.returns
returns c =
    let a = c.args in
    let f = edge-fields a.s.now a.chart c.requires.0 a.i c.edge-cursor.result.at c.requires.1 c.edge-cursor.ensures in
    (c.byte.ensures ∙ f.0, c.byte-2.ensures ∙ f.1)
