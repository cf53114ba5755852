-- `bohrali::c::bohrali_remove_edge` meets its contract.
-- Assumes nothing.
use mathlib.Core.Path.{◌≡◌, ap, sym, ◌∙◌}
use native.Mathlib.Omega.{arith}
use borrow.Author.Rules.{rules}
use mir.Syntax.{w64}
use mir.Val.{to_z, of_z}
use Rattle.output.specs.Output.{number_of}
use Rattle.output.proofs.OutputCorrectLaws.{carried}
use Rattle.theory_edits.proofs.EditLaws.{remove-returns, fits_in}
use Rattle.theory_edits.specs.RemoveCorrect.{RemoveCorrect}
use Rattle.theory_edits.proofs.RemoveCorrectLaws.{remove-correct}
use Rattle.bohrali.proofs.c.bohrali_remove_edge.Goals as goal

-- a result that was written had room, and so fits
pub number_of-requires : goal.number_of-requires
number_of-requires c count h =
    let h = sym c.remove_edge.ensures.value ∙ h in
    let buffer = c.args.buffer.now in
    omega (arith, remove-returns buffer c.args.chart_len c.args.from c.args.to h, fits_in buffer c.args.chart_len c.args.from c.args.to h)

pub returns : goal.returns
returns c =
    let e : to_z w64 (of_z w64 c.number_of.result) ≡ c.number_of.result = search rules in
    let both = carried (RemoveCorrect _ _ _ _) (e ∙ c.number_of.ensures ∙ ap number_of c.remove_edge.ensures.value) c.remove_edge.ensures.buffer_after
    (remove-correct _ _ _ _) in
    record { value = both.0; buffer_after = both.1.0; remove_correct = both.1.1 }
