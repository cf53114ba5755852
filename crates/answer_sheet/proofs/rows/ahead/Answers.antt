-- `answer_sheet::rows::ahead` meets its contract.
-- Assumes nothing.
use Rattle.answer_sheet.specs.Eights.{digit}
use Rattle.answer_pairs.specs.Rules.{by_size}
use Rattle.answer_sheet.proofs.Ranks.{alone-digit, lacks-digit, ahead-digit}
use Rattle.answer_sheet.proofs.rows.ahead.Goals as goal

pub returns-then-alone : goal.returns-then-alone
unfolding digit by_size
returns-then-alone c j l = rw c.if-alone.true (alone-digit j l)

pub returns-then-lacks : goal.returns-then-lacks
unfolding digit by_size
returns-then-lacks c j l = rw (c.if-alone.false, c.if-lacks.true) (lacks-digit j l)

pub returns : goal.returns
unfolding digit by_size
returns c j l =
    let e = c.args in
    rw (c.if-alone.false, c.if-lacks.false) (ahead-digit e.p.both e.p.odd e.p.twos e.p.fours e.lacking j)
