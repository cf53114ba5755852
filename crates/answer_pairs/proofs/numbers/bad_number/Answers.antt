-- `answer_pairs::numbers::bad_number` meets its contract.
-- Assumes nothing.
use mathlib.Core.Path.{sym, ◌∙◌}
use native.Mathlib.Omega.{arith}
use borrow.Author.Tests.{le-leb}
use Rattle.answer_pairs.proofs.BadNumbers.{past-bad, flag-bad}
use Rattle.answer_pairs.proofs.numbers.bad_number.Goals as goal

pub returns-then-x-n : goal.returns-then-x-n
returns-then-x-n c R W q C = le-leb _ _ c.if-x-n.true ∙ sym (past-bad R _ W (omega (arith, q, c.if-x-n.true)))

pub returns-else-x-n : goal.returns-else-x-n
returns-else-x-n c R W q C = sym (flag-bad R _ _ (C.at _ (omega (arith, q))))
