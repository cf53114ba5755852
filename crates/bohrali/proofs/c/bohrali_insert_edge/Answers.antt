-- `bohrali::c::bohrali_insert_edge` meets its contract.
-- Assumes nothing.
use mathlib.Core.Path.{◌≡◌, ap, sym, ◌∙◌}
use native.Mathlib.Omega.{arith}
use borrow.Author.Rules.{rules}
use mir.Syntax.{w64}
use mir.Val.{to_z, of_z}
use Rattle.output.specs.Output.{number_of}
use Rattle.output.proofs.OutputCorrectLaws.{carried}
use Rattle.theory_edits.proofs.EditLaws.{insert-returns, room}
use Rattle.theory_edits.specs.declared.Receipt.{Receipt}
use Rattle.theory_edits.specs.InsertCorrect.{InsertCorrect}
use Rattle.theory_edits.proofs.InsertCorrectLaws.{insert-correct}
use Rattle.bohrali.proofs.c.bohrali_insert_edge.Goals as goal

-- a result that was written had room, and so fits
pub number_of-requires : goal.number_of-requires
number_of-requires c count h =
    let receipt : Receipt =
    record { length = c.args.receipt_length; place = c.args.receipt_place } in
    let h = sym c.insert_edge.ensures.value ∙ h in
    let buffer = c.args.buffer.now in
    omega (arith, insert-returns buffer c.args.chart_len receipt c.args.from c.args.to h, room buffer c.args.chart_len receipt c.args.from c.args.to h)

pub returns : goal.returns
returns c =
    let receipt : Receipt =
    record { length = c.args.receipt_length; place = c.args.receipt_place } in
    let e : to_z w64 (of_z w64 c.number_of.result) ≡ c.number_of.result = search rules in
    let both = carried (InsertCorrect _ _ _ _ _) (e ∙ c.number_of.ensures ∙ ap number_of c.insert_edge.ensures.value) c.insert_edge.ensures.buffer_after
    (insert-correct _ _ receipt _ _) in
    record { result_value = both.0; buffer_after = both.1.0; fact = both.1.1 }
