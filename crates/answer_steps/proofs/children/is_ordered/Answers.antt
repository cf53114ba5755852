-- `answer_steps::children::is_ordered` meets its contract.
-- Assumes nothing.
use mathlib.Core.Path.{sym, ◌∙◌}
use borrow.Author.Tests.{eq-eqb, ne_eqb}
use Rattle.answer_steps.specs.Children.{ordered_at}
use Rattle.answer_steps.proofs.children.is_ordered.Goals as goal

pub returns-then-at-from : goal.returns-then-at-from
unfolding ordered_at
returns-then-at-from c = rw (ne_eqb _ _ (λ z. c.if-at-from.true (c.at.ensures ∙ z ∙ sym c.from.ensures)))

pub returns : goal.returns
unfolding ordered_at
returns c = rw (eq-eqb _ _ (sym c.at.ensures ∙ c.if-at-from.false ∙ c.from.ensures)) c.has.ensures
