-- `call_listing::reader::followed` meets its contract.
-- Assumes nothing.
use borrow.Author.Tests.{eq-eqb, ne_eqb}
use Rattle.chart.specs.Scope.{single_byte, loop_byte}
use Rattle.call_listing.proofs.reader.followed.Goals as goal

pub returns-then-kind-eq-SINGLE : goal.returns-then-kind-eq-SINGLE
returns-then-kind-eq-SINGLE c = rw (eq-eqb _ single_byte c.if-kind-eq-SINGLE.true) c.with_barrier.ensures

pub returns-then-kind-eq-DO : goal.returns-then-kind-eq-DO
returns-then-kind-eq-DO c =
    rw (ne_eqb _ single_byte c.if-kind-eq-SINGLE.false, eq-eqb _ loop_byte c.if-kind-eq-DO.true) c.with_barrier-then-kind-eq-DO.ensures

pub returns : goal.returns
returns c = rw (ne_eqb _ single_byte c.if-kind-eq-SINGLE.false, ne_eqb _ loop_byte c.if-kind-eq-DO.false) c.added.ensures
