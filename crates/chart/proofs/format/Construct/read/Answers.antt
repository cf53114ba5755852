-- `chart::format::Construct::read` meets its contract.
-- Assumes nothing.
use Rattle.std.proofs.Common.{◌∙◌}
use Rattle.chart.proofs.Records.{construct-fields}
use Rattle.chart.proofs.format.Construct.read.Goals as goal

pub returns : goal.returns
returns c =
    let a = c.args in
    let f = construct-fields a.s.now a.chart c.requires.0 a.c c.construct-cursor.result.at c.requires.1 c.construct-cursor.ensures in
    (c.byte.ensures ∙ f.0, c.byte-2.ensures ∙ f.1, c.field.ensures.0 ∙ f.2, c.filter.ensures ∙ f.3)
