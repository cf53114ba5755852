-- `bohrali::c::bohrali_sheet` meets its contract.
-- Assumes nothing.
use mathlib.Core.Path.{◌≡◌, ◌∙◌}
use borrow.Author.Rules.{rules}
use mir.Syntax.{w64}
use mir.Val.{to_z, of_z}
use Rattle.theory_calls.specs.AnswersCorrect.{SheetCorrect}
use Rattle.theory_calls.specs.AnswersCorrectLaws.{sheet-correct}
use Rattle.output.proofs.OutputCorrectLaws.{carried}
use Rattle.bohrali.proofs.c.bohrali_sheet.Goals as goal

pub returns : goal.returns
returns c =
    let e : to_z w64 (of_z w64 c.sheet.result) ≡ c.sheet.result = search rules in
    let both = carried (SheetCorrect _ _ _) (e ∙ c.sheet.ensures.value) c.sheet.ensures.out_after (sheet-correct _ _ _ _) in
    record { value = both.0; out_after = both.1.0; sheet_correct = both.1.1 }
