-- `bohrali::c::bohrali_pair` meets its contract.
-- Assumes nothing.
use mathlib.Core.Path.{◌≡◌, ◌∙◌}
use borrow.Author.Rules.{rules}
use mir.Syntax.{w64}
use mir.Val.{to_z, of_z}
use Rattle.theory_calls.specs.AnswersCorrect.{PairCorrect}
use Rattle.theory_calls.specs.AnswersCorrectLaws.{pair-correct}
use Rattle.output.proofs.OutputCorrectLaws.{told}
use Rattle.bohrali.proofs.c.bohrali_pair.Goals as goal

pub returns : goal.returns
returns c =
    let e : to_z w64 (of_z w64 c.pair.result) ≡ c.pair.result = search rules in
    let both = told (PairCorrect _ _ _ _) (e ∙ c.pair.ensures) (pair-correct _ _ _ _ _) in
    record { value = both.0; pair_correct = both.1 }
