-- `answer_steps::decide::again` meets its contract.
-- Assumes nothing.
use mathlib.Core.Path.{sym, ◌∙◌, ap}
use Prim.Native.Nat.{ℕ}
use native.Mathlib.Omega.{arith}
use borrow.Author.Tests.{eq-eqb, ne_eqb}
use Rattle.answer_steps.proofs.Laws.{loop-test, in_table}
use Rattle.answer_steps.proofs.decide.again.Goals as goal

pub returns-then-at-from : goal.returns-then-at-from
returns-then-at-from c = λ R T. rw (T.kind _ (in_table T c.requires.3), loop-test, ne_eqb _ _ (λ z. c.if-at-from.true (c.at.ensures ∙ z ∙ sym c.from.ensures)))

pub returns : goal.returns
returns c =
    λ R T.
    let l = in_table T c.requires.3 in
    let begin = c.at-2.ensures in
    let edge = ap (λ (n : ℕ). R.edge n c.args.v) (T.begin c.args.c l ∙ sym begin) ∙ T.edge _ c.args.v (omega (arith, begin, T.begins c.args.c l)) c.requires.2 in
    rw (T.kind _ l, loop-test, eq-eqb _ _ (sym c.at.ensures ∙ c.if-at-from.false ∙ c.from.ensures)) (c.leads.ensures ∙ sym edge)
