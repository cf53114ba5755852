-- `bohrali::witnessed::number_of` meets its contract.
-- Assumes nothing.
use Rattle.std.specs.Prelude.{Ok}
use mathlib.Core.Path.{◌≡◌, ap, sym, ◌∙◌}
use borrow.Author.Rules.{rules}
use mir.Syntax.{w64}
use mir.Val.{to_z, of_z}
use Rattle.theory_calls.specs.Witness.{number_of}
use Rattle.bohrali.proofs.witnessed.number_of.Goals as goal

pub returns-then-holds : goal.returns-then-holds
unfolding number_of
returns-then-holds c =
    let e : to_z w64 (of_z w64 c.counted.result) ≡ c.counted.result = search rules in
    e ∙ c.counted.ensures ∙ sym (ap number_of (c.in-Ok.is ∙ ap Ok c.if-holds.true))

pub returns-else-holds : goal.returns-else-holds
unfolding number_of
returns-else-holds c =
    let e : to_z w64 (of_z w64 c.counted-else-holds.result) ≡ c.counted-else-holds.result = search rules in
    e ∙ c.counted-else-holds.ensures ∙ sym (ap number_of (c.in-Ok.is ∙ ap Ok c.if-holds.false))

pub returns-in-Err : goal.returns-in-Err
unfolding number_of
returns-in-Err c =
    let e : to_z w64 (of_z w64 c.negated.result) ≡ c.negated.result = search rules in
    e ∙ c.negated.ensures ∙ sym (ap number_of c.in-Err.is)
