-- The invariants and measures of `answer_sheet::eights::put_word`.
use Rattle.answer_sheet.specs.Eights.{digit}
use Rattle.answer_sheet.proofs.Spreads.{Filled}
use Rattle.answer_sheet.proofs.eights.put_word.Given as goal

abbrev pub invariant-loop-i : goal.invariant-loop-i
invariant-loop-i l = Filled (digit l.p) l.w l.fence l.initial.row l.row l.i
