-- `call_judge::number::number_of` meets its contract.
-- Assumes nothing.
use mathlib.Core.Path.{◌≡◌, ap, sym, ◌∙◌}
use Rattle.std.specs.Prelude.{Ok}
use mir.Val.{to_z, of_z}
use mir.Syntax.{w64}
use borrow.Author.Rules.{rules}
use Rattle.theory_calls.specs.Judged.{number_of}
use Rattle.call_judge.proofs.number.number_of.Goals as goal

pub returns-in-Some : goal.returns-in-Some
unfolding number_of
returns-in-Some c =
    let e : to_z w64 (of_z w64 c.counted.result) ≡ c.counted.result = search rules in
    e ∙ c.counted.ensures ∙ sym (ap number_of (c.in-Ok.is ∙ ap Ok c.in-Some.is))

pub returns-in-None : goal.returns-in-None
unfolding number_of
returns-in-None c =
    let e : to_z w64 (of_z w64 c.counted-in-None.result) ≡ c.counted-in-None.result = search rules in
    e ∙ c.counted-in-None.ensures ∙ sym (ap number_of (c.in-Ok.is ∙ ap Ok c.in-None.is))

pub returns-in-Err : goal.returns-in-Err
unfolding number_of
returns-in-Err c =
    let e : to_z w64 (of_z w64 c.negated.result) ≡ c.negated.result = search rules in
    e ∙ c.negated.ensures ∙ sym (ap number_of c.in-Err.is)
