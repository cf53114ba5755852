-- `answer_steps::children::is_sort` meets its contract.
-- Assumes nothing.
use borrow.Author.Tests.{eq-eqb, ne_eqb}
use Rattle.answer_steps.specs.Children.{sort_at}
use Rattle.answer_steps.proofs.children.is_sort.Goals as goal

pub returns-then-which-eq0 : goal.returns-then-which-eq0
unfolding sort_at
returns-then-which-eq0 c = rw (eq-eqb _ _ c.if-which-eq0.true) c.is_section.ensures

pub returns : goal.returns
unfolding sort_at
returns c = rw (ne_eqb _ _ c.if-which-eq0.false) c.is_ordered.ensures
