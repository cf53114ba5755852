-- `chart::format::Chart::read` meets its contract.
-- Assumes nothing.
use mathlib.Core.Path.{◌∙◌}
use Rattle.chart.specs.Checked.{counts_of}
use Rattle.chart.specs.Format.{decode, last_trailer, trailer_of}
use Rattle.chart.proofs.Records.{trailer-field}
use Rattle.chart.proofs.format.Chart.read.Goals as goal

pub returns : goal.returns
unfolding counts_of decode last_trailer trailer_of
returns c =
    let f = trailer-field c.args.s.now c.trailer-cursor.result.at in
    let v = c.field.ensures.0 ∙ f 0 c.trailer-cursor.ensures in
    let n = c.field-2.ensures.0 ∙ f 2 c.trailer-cursor.ensures in
    let e = c.field-3.ensures.0 ∙ f 4 c.trailer-cursor.ensures in
    let d = c.field-4.ensures.0 ∙ f 6 c.trailer-cursor.ensures in
    record { value = rw (v, n, e, d); nodes_bound = (c.field-2.ensures.1, c.field-3.ensures.1, c.field-4.ensures.1) }
