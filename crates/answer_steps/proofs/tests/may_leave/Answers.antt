-- `answer_steps::tests::may_leave` meets its contract.
-- Assumes nothing.
use mathlib.Core.Path.{sym, ◌∙◌, ap}
use native.Mathlib.Omega.{arith}
use borrow.Author.Tests.{eq-eqb, ne_eqb}
use Rattle.theory_traces.specs.Tests.{all_taken, may_leave}
use Rattle.answer_steps.proofs.Laws.{sections-test, in_table}
use Rattle.answer_steps.proofs.tests.may_leave.Goals as goal

pub returns-then-at-from : goal.returns-then-at-from
unfolding may_leave
returns-then-at-from c = λ R σ T S. rw (T.kind _ (in_table T c.requires.3), sections-test, ne_eqb _ _ (λ z. c.if-at-from.true (c.at.ensures ∙ z ∙ sym c.from.ensures)))

pub returns : goal.returns
unfolding may_leave
returns c =
    λ R σ T S.
    let own = c.count_of.ensures ∙ S.count c.args.t c.args.c c.requires.2 (omega (arith, c.requires.3, T.constructs, T.few)) in
    rw (T.kind _ (in_table T c.requires.3), sections-test, eq-eqb _ _ (sym c.at.ensures ∙ c.if-at-from.false ∙ c.from.ensures))
    (c.all_taken.ensures R σ T S ∙ ap (all_taken R c.args.m σ c.args.c) own)
