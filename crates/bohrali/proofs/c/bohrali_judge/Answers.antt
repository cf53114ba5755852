-- `bohrali::c::bohrali_judge` meets its contract.
-- Assumes nothing.
use mathlib.Core.Path.{◌≡◌, ◌∙◌}
use borrow.Author.Rules.{rules}
use mir.Syntax.{w64}
use mir.Val.{to_z, of_z}
use Rattle.theory_calls.specs.Correct.{Correct}
use Rattle.theory_calls.proofs.CorrectLaws.{correct-any}
use Rattle.output.proofs.OutputCorrectLaws.{told}
use Rattle.bohrali.proofs.c.bohrali_judge.Goals as goal

pub returns : goal.returns
returns c =
    let e : to_z w64 (of_z w64 c.judge.result) ≡ c.judge.result = search rules in
    let both = told (Correct _ _ _) (e ∙ c.judge.ensures) (correct-any _ _ _) in
    record { value = both.0; correct = both.1 }
