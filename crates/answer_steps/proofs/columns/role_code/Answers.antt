-- `answer_steps::columns::role_code` meets its contract.
-- Assumes nothing.
use mathlib.Core.Path.{◌≡◌, sym, ◌∙◌, ap}
use mathlib.Core.Bool.{true, false}
use native.Mathlib.Omega.{arith}
use borrow.Author.Tests.{eq-eqb, ne_eqb}
use Rattle.lists.specs.Bits.{has}
use Rattle.answer_steps.specs.Words.{role_code}
use Rattle.answer_steps.proofs.columns.role_code.Goals as goal

pub returns-then-node-eq-PLAIN : goal.returns-then-node-eq-PLAIN
unfolding role_code
returns-then-node-eq-PLAIN c = rw (eq-eqb _ _ c.if-node-eq-PLAIN.true)

pub returns-then-number-region : goal.returns-then-number-region
unfolding role_code
returns-then-number-region c = rw (ne_eqb _ _ c.if-node-eq-PLAIN.false, eq-eqb _ _ (sym c.from-number.ensures ∙ c.if-number-region.true))

pub returns-then-node-eq-BARRIER : goal.returns-then-node-eq-BARRIER
unfolding role_code
returns-then-node-eq-BARRIER c = rw (ne_eqb _ _ c.if-node-eq-PLAIN.false, ne_eqb _ _ (λ z. c.if-number-region.false (c.from-number.ensures ∙ z)), eq-eqb _ _ c.if-node-eq-BARRIER.true)

pub returns-then-has : goal.returns-then-has
unfolding role_code
returns-then-has c =
    let member : has c.args.members c.args.node.number ≡ true = ap (has c.args.members) (sym c.from-number.ensures) ∙ sym c.has.ensures ∙ c.if-has.true in
    rw (ne_eqb _ _ c.if-node-eq-PLAIN.false, ne_eqb _ _ (λ z. c.if-number-region.false (c.from-number.ensures ∙ z)), ne_eqb _ _ c.if-node-eq-BARRIER.false, member)

pub returns : goal.returns
unfolding role_code
returns c =
    let other : has c.args.members c.args.node.number ≡ false = ap (has c.args.members) (sym c.from-number.ensures) ∙ sym c.has.ensures ∙ c.if-has.false in
    rw (ne_eqb _ _ c.if-node-eq-PLAIN.false, ne_eqb _ _ (λ z. c.if-number-region.false (c.from-number.ensures ∙ z)), ne_eqb _ _ c.if-node-eq-BARRIER.false, other)
