-- `check_constructs::enclosing::same_name` meets its contract.
-- Assumes nothing.
use borrow.Author.Tests.{eq-eqb, ne_eqb}
use Rattle.chart.specs.Scope.{critical_byte, kind_of}
use Rattle.chart.specs.Nesting.{excluded, same_critical, may_enclose}
use Rattle.check_constructs.proofs.enclosing.same_name.Goals as goal

pub returns-then-outer-eq-CRITICAL : goal.returns-then-outer-eq-CRITICAL
unfolding excluded same_critical may_enclose kind_of
returns-then-outer-eq-CRITICAL c = rw (eq-eqb _ critical_byte c.if-outer-eq-CRITICAL.true)

pub returns-else-outer-eq-CRITICAL : goal.returns-else-outer-eq-CRITICAL
unfolding excluded same_critical may_enclose kind_of
returns-else-outer-eq-CRITICAL c = rw (ne_eqb _ critical_byte c.if-outer-eq-CRITICAL.false)
