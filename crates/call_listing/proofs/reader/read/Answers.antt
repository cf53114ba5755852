-- `call_listing::reader::read` meets its contract.
-- Assumes nothing.
use Rattle.std.proofs.Common.{◌≡◌, Ok, Err, rules, sym, ◌∙◌, ap, suc, length, arith}
use borrow.Author.Tests.{eq-eqb, ne_eqb}
use Rattle.chart.specs.declared.format.Refusal.TheVariants.{BadGrammar}
use Rattle.call_listing.specs.Extent.{Told}
use Rattle.call_listing.proofs.Steps.{ending, whole-extent}
use Rattle.call_listing.proofs.reader.read.Goals as goal

pub returns-in_err-all : goal.returns-in_err-all
returns-in_err-all c =
    let same : c.from_residual.result ≡ Err c.in_err-all.field-0.0 = search rules in
    let s = c.args.s.now in
    same ∙ ap (ending s) (sym c.in_err-all.was ∙ c.block.ensures.by_index (suc (length s)) (omega arith)) ∙ whole-extent s

pub returns-then-all-s : goal.returns-then-all-s
returns-then-all-s c =
    let s = c.args.s.now in
    let all = c.in_ok-all.all in
    let here : ◌≡◌ {A = Told} (Ok all) (ending s (Ok all)) = rw (eq-eqb all.next (length s) c.if-all-s.true) in
    here ∙ ap (ending s) (sym c.in_ok-all.was ∙ c.block.ensures.by_index (suc (length s)) (omega arith)) ∙ whole-extent s

pub returns-else-all-s : goal.returns-else-all-s
returns-else-all-s c =
    let s = c.args.s.now in
    let all = c.in_ok-all.all in
    let here : ◌≡◌ {A = Told} (Err BadGrammar) (ending s (Ok all)) = rw (ne_eqb all.next (length s) c.if-all-s.false) in
    here ∙ ap (ending s) (sym c.in_ok-all.was ∙ c.block.ensures.by_index (suc (length s)) (omega arith)) ∙ whole-extent s
