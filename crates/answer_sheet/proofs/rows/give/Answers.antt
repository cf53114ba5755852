-- `answer_sheet::rows::give` meets its contract.
-- Assumes nothing.
use Rattle.answer_sheet.specs.Eights.{digit}
use Rattle.answer_sheet.proofs.Ranks.{given-digit}
use Rattle.answer_sheet.proofs.rows.give.Goals as goal

pub returns : goal.returns
unfolding digit
returns c j blank =
    let e = c.args in
    rw (c.part.ensures, c.part-2.ensures, c.part-3.ensures)
    (given-digit e.nodes j e.p.both e.p.odd e.p.twos e.p.fours e.number c.requires blank)
