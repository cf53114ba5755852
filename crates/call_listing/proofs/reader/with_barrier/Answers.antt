-- `call_listing::reader::with_barrier` meets its contract.
-- Assumes nothing.
use borrow.Author.Tests.{le-ltb, lt-ltb, eq-eqb, ne_eqb}
use Rattle.call_listing.proofs.reader.with_barrier.Goals as goal

pub returns-then-s-block : goal.returns-then-s-block
returns-then-s-block c = rw (le-ltb _ _ c.if-s-block.true) c.added.ensures

pub returns-then-s-block-eq-NOWAIT : goal.returns-then-s-block-eq-NOWAIT
returns-then-s-block-eq-NOWAIT c = rw (lt-ltb _ _ c.if-s-block.false, eq-eqb _ _ c.if-s-block-eq-NOWAIT.true)

pub returns : goal.returns
returns c = rw (lt-ltb _ _ c.if-s-block.false, ne_eqb _ _ c.if-s-block-eq-NOWAIT.false) c.added-2.ensures
