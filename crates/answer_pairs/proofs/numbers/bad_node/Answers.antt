-- `answer_pairs::numbers::bad_node` meets its contract.
-- Assumes nothing.
use mathlib.Core.Path.{sym, ◌∙◌}
use native.Mathlib.Omega.{arith}
use borrow.Author.Tests.{le-leb}
use Rattle.chart.proofs.Records.{nodes-length}
use Rattle.answer_pairs.proofs.BadNumbers.{past-bad, flag-bad}
use Rattle.answer_pairs.proofs.numbers.bad_node.Goals as goal

pub returns-then-x-chart : goal.returns-then-x-chart
returns-then-x-chart c =
    le-leb _ _ c.if-x-chart.true ∙ sym (past-bad _ _ c.requires.1 (omega (arith, c.if-x-chart.true, nodes-length _ c.args.chart c.requires.0.laid)))

pub returns-else-x-chart : goal.returns-else-x-chart
returns-else-x-chart c = sym (flag-bad _ _ _ c.closed_at.ensures)
