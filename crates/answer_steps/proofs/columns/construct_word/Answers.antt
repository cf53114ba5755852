-- `answer_steps::columns::construct_word` meets its contract.
-- Assumes nothing.
use native.Mathlib.Omega.{arith}
use borrow.Author.Tests.{eq-eqb, ne_eqb}
use Rattle.answer_steps.specs.Words.{construct_word}
use Rattle.answer_steps.proofs.columns.construct_word.Goals as goal

pub returns-then-which-eq0 : goal.returns-then-which-eq0
unfolding construct_word
returns-then-which-eq0 c = rw (eq-eqb _ _ c.if-which-eq0.true) c.read-construct.ensures.0

pub returns-then-which-eq1 : goal.returns-then-which-eq1
unfolding construct_word
returns-then-which-eq1 c = rw (ne_eqb _ _ c.if-which-eq0.false, eq-eqb _ _ c.if-which-eq1.true) c.read-construct.ensures.1

pub returns-then-which-eq2 : goal.returns-then-which-eq2
unfolding construct_word
returns-then-which-eq2 c = rw (ne_eqb _ _ c.if-which-eq0.false, ne_eqb _ _ c.if-which-eq1.false, eq-eqb _ _ c.if-which-eq2.true) c.read-construct.ensures.3

pub returns-then-which-eq3 : goal.returns-then-which-eq3
unfolding construct_word
returns-then-which-eq3 c = rw (ne_eqb _ _ c.if-which-eq0.false, ne_eqb _ _ c.if-which-eq1.false, ne_eqb _ _ c.if-which-eq2.false, eq-eqb _ _ c.if-which-eq3.true)

pub returns : goal.returns
unfolding construct_word
returns c = rw (ne_eqb _ _ c.if-which-eq0.false, ne_eqb _ _ c.if-which-eq1.false, ne_eqb _ _ c.if-which-eq2.false, ne_eqb _ _ c.if-which-eq3.false)
