-- `bohrali::c::bohrali_witnessed` meets its contract.
-- Assumes nothing.
use mathlib.Core.Path.{◌≡◌, ap, sym, subst, ◌∙◌}
use borrow.Author.Rules.{rules}
use mir.Syntax.{w64}
use mir.Val.{to_z, of_z}
use Rattle.theory_calls.specs.Witness.{number_of}
use Rattle.theory_calls.specs.WitnessedCorrect.{WitnessedCorrect}
use Rattle.theory_calls.proofs.WitnessedCorrectLaws.{witnessed-correct}
use Rattle.bohrali.proofs.c.bohrali_witnessed.Goals as goal

pub returns : goal.returns
returns c =
    let e : to_z w64 (of_z w64 c.number_of.result) ≡ c.number_of.result = search rules in
    let q = e ∙ c.number_of.ensures ∙ ap number_of c.witnessed.ensures in
    record { value = q; witnessed_correct = subst (WitnessedCorrect _ _ _ _ _ _) (sym q) (witnessed-correct _ _ _ _ _ _) }
