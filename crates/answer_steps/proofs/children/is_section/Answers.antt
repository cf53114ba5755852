-- `answer_steps::children::is_section` meets its contract.
-- Assumes nothing.
use mathlib.Core.Path.{sym, ◌∙◌}
use native.Mathlib.Omega.{arith}
use borrow.Author.Tests.{eq-eqb, ne_eqb}
use Rattle.lists.specs.Truth.{and-false}
use Rattle.answer_steps.specs.Children.{section_at}
use Rattle.answer_steps.proofs.children.is_section.Goals as goal

pub returns-then-at-ne-OPENS : goal.returns-then-at-ne-OPENS
unfolding section_at
returns-then-at-ne-OPENS c = rw (sym c.at-begin.ensures, ne_eqb _ _ (λ z. c.if-at-ne-OPENS.true (c.at.ensures ∙ z)))

pub returns-then-at-x : goal.returns-then-at-x
unfolding section_at
returns-then-at-x c = rw (sym c.at-begin.ensures, ne_eqb _ _ (λ z. c.if-at-x.true (c.at-2.ensures ∙ z)), and-false)

pub returns : goal.returns
unfolding section_at
returns c = rw (
  sym c.at-begin.ensures,
  eq-eqb _ _ (sym c.at.ensures ∙ c.if-at-ne-OPENS.false),
  eq-eqb _ _ (sym c.at-2.ensures ∙ c.if-at-x.false),
  c.at-3.ensures,
  c.from.ensures,
)
