-- `bohrali::counts::number_of` meets its contract.
-- Assumes nothing.
use mathlib.Core.Path.{◌≡◌, ap, sym, ◌∙◌}
use lib.IntN.{pos}
use borrow.Author.Rules.{rules}
use mir.Syntax.{w64}
use mir.Val.{to_z, of_z}
use Rattle.theory_calls.specs.Admission.{number_of}
use Rattle.bohrali.proofs.counts.number_of.Goals as goal

pub packed-requires : goal.packed-requires
packed-requires c = c.requires _ c.in-Ok.is

pub returns-in-Ok : goal.returns-in-Ok
unfolding number_of
returns-in-Ok c =
    let e : to_z w64 (of_z w64 c.counted.result) ≡ c.counted.result = search rules in
    e ∙ c.counted.ensures ∙ ap pos c.packed.ensures.0 ∙ sym (ap number_of c.in-Ok.is)

pub returns-in-Err : goal.returns-in-Err
unfolding number_of
returns-in-Err c =
    let e : to_z w64 (of_z w64 c.negated.result) ≡ c.negated.result = search rules in
    e ∙ c.negated.ensures ∙ sym (ap number_of c.in-Err.is)
