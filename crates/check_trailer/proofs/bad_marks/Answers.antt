-- `check_trailer::bad_marks` meets its contract.
-- Assumes nothing.
use Rattle.std.proofs.Common.{◌∙◌, arith}
use Rattle.std.proofs.lemmas.Bool.Decides.{nat_tests}
use Rattle.chart.specs.Refusal.{bad_marks}
use Rattle.chart.specs.Format.{decode, last_trailer, trailer_of}
use Rattle.chart.proofs.Records.{trailer-field}
use Rattle.check_trailer.proofs.bad_marks.Goals as goal

pub returns-then-bad_edition : goal.returns-then-bad_edition
unfolding bad_marks decode last_trailer trailer_of
returns-then-bad_edition c =
    let f = trailer-field c.args.s.now c.trailer-cursor.result.at in
    grind (arith, nat_tests, c.field.ensures.0 ∙ f 0 c.trailer-cursor.ensures)

pub returns-else-bad_edition : goal.returns-else-bad_edition
unfolding bad_marks decode last_trailer trailer_of
returns-else-bad_edition c =
    let f = trailer-field c.args.s.now c.trailer-cursor.result.at in
    grind (arith, nat_tests, c.field.ensures.0 ∙ f 0 c.trailer-cursor.ensures, c.field-else-bad_edition.ensures.0 ∙ f 14 c.trailer-cursor.ensures)
