-- `answer_steps::children::add_child` meets its contract.
-- Assumes nothing.
use mathlib.Core.Path.{refl}
use native.Mathlib.Omega.{arith}
use Rattle.answer_steps.proofs.Sorts.{children-alone, children-other, children-more}
use Rattle.answer_steps.proofs.children.add_child.Goals as goal

pub returns-then-parent-ge-CONSTRUCTS : goal.returns-then-parent-ge-CONSTRUCTS
returns-then-parent-ge-CONSTRUCTS c = λ old K. children-alone K c.requires.2 c.requires.3 refl c.at-parent.ensures c.if-parent-ge-CONSTRUCTS.true

pub returns-then-is_sort : goal.returns-then-is_sort
returns-then-is_sort c =
    λ old K.
    children-more K c.requires.2 c.requires.3 c.is_sort.ensures c.at-parent.ensures c.if-is_sort.true (omega (arith, c.if-parent-ge-CONSTRUCTS.false)) refl
    (omega (arith, c.requires.0, c.requires.1, c.if-parent-ge-CONSTRUCTS.false)) (rw c.bit.ensures refl)

pub returns-else-is_sort : goal.returns-else-is_sort
returns-else-is_sort c = λ old K. children-other K c.requires.2 c.requires.3 c.is_sort.ensures c.at-parent.ensures c.if-is_sort.false
