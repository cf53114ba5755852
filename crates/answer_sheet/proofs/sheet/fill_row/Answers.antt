-- `answer_sheet::sheet::fill_row` meets its contract.
-- Assumes nothing.
use Rattle.std.proofs.Common.{◌≡◌, ◌∙◌, sym, rules, arith, length, replicate}
use Rattle.std.proofs.lemmas.List.{places}
use Rattle.answer_sheet.proofs.Entries.{flag-closed, flag-asked, entry_closed, row_by}
use Rattle.answer_sheet.proofs.sheet.fill_row.Goals as goal

pub returns-then-closed-a-ne0 : goal.returns-then-closed-a-ne0
returns-then-closed-a-ne0 c R f q C last =
    let a = c.args.a in
    let closed = flag-closed C a (omega (arith, q, c.requires.1)) c.if-closed-a-ne0.true in
    let all : c.fill.new.self ≡ replicate (length c.args.out.now) 255 = c.fill.ensures.after (λ y h. search rules) in
    row_by R f a _ (c.fill.ensures.len ∙ sym q) (λ j h. rw all (search (rules, places)) ∙ sym (entry_closed R f a j closed))

pub returns-else-closed-a-ne0 : goal.returns-else-closed-a-ne0
returns-else-closed-a-ne0 c R f q C last =
    let a = c.args.a in
    let open_row = last (flag-asked C a (omega (arith, q, c.requires.1)) c.if-closed-a-ne0.false) in
    row_by R f a _ (c.copy_from_slice.ensures.len ∙ sym q) (λ j h. rw c.copy_from_slice.ensures.after (search (rules, places)) ∙ open_row j h)
