-- `call_edges::insert::insert_edge` meets its contract.
-- Assumes nothing.
use Rattle.std.proofs.Common.{◌≡◌, Err, rules, sym, ◌∙◌}
use Rattle.theory_edits.specs.Edits.{receipt_for, asked}
use Rattle.theory_edits.specs.AskingLaws.{granted}
use Rattle.call_edges.proofs.AskLaws.{refused-some}
use Rattle.call_edges.proofs.CommitLaws.{asking-refused, asking-passed}
use Rattle.call_edges.proofs.insert.insert_edge.Goals as goal

pub commit-requires : goal.commit-requires
unfolding asked receipt_for
commit-requires c =
    let is = (granted _ (sym c.ask_into.ensures.value ∙ c.in_ok-present.was)).1 in
    (rw (← is) (c.ask_into.ensures.len_bound _ c.in_ok-present.was).0, search rules)

pub returns-in_err-present : goal.returns-in_err-present
unfolding asked
returns-in_err-present c =
    let h = refused-some _ _ (sym c.ask_into.ensures.value ∙ c.in_err-present.was) in
    let p = asking-refused c.args.buffer.now c.args.len c.args.receipt c.args.from c.args.to _ h in
    let same : c.from_residual.result ≡ Err c.in_err-present.field-0.0 = search rules in
    record { value = same ∙ p.0; buffer_after = p.1 }

pub returns : goal.returns
unfolding asked
returns c =
    let (passes, is) = granted _ (sym c.ask_into.ensures.value ∙ c.in_ok-present.was) in
    let longer = (c.ask_into.ensures.len_bound _ c.in_ok-present.was).1 in let p = asking-passed c.args.buffer.now c.args.len c.args.receipt c.args.from c.args.to _ passes (sym is) longer c.commit.ensures.value c.commit.ensures.buffer_after in record { value = p.0; buffer_after = p.1 }
