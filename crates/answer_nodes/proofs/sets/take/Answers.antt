-- `answer_nodes::sets::take` meets its contract.
-- Assumes nothing.
use Prim.Native.Nat.{◌^◌}
use borrow.Author.Tests.{eq-eqb}
use Rattle.answer_nodes.proofs.Runs.{joins, starts}
use Rattle.answer_nodes.proofs.sets.take.Goals as goal

pub returns-then-mask-run : goal.returns-then-mask-run
returns-then-mask-run c = (
  c.requires.0,
  λ b l. rw (eq-eqb _ 0 c.if-closed-ne0.false, c.bit.ensures, c.if-mask-run.true) (joins c.args.sets.now c.args.run.mask c.args.run.set (2 ^ c.args.j) b),
)

pub returns : goal.returns
returns c = (
  c.add.ensures.long,
  λ b l. rw (eq-eqb _ 0 c.if-closed-ne0.false, c.bit-2.ensures) (starts c.args.mask (2 ^ c.args.j) b _ _ (c.add.ensures.at b l)),
)
