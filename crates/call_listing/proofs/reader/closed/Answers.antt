-- `call_listing::reader::closed` meets its contract.
-- Assumes nothing.
use borrow.Author.Tests.{le-ltb, lt-ltb, eq-eqb, ne_eqb}
use Rattle.call_listing.proofs.reader.closed.Goals as goal

pub returns-then-s-block : goal.returns-then-s-block
returns-then-s-block c = rw (le-ltb _ _ c.if-s-block.true)

pub returns-then-s-block-eq-CLOSE : goal.returns-then-s-block-eq-CLOSE
returns-then-s-block-eq-CLOSE c = rw (lt-ltb _ _ c.if-s-block.false, eq-eqb _ _ c.if-s-block-eq-CLOSE.true)

pub returns-else-s-block-eq-CLOSE : goal.returns-else-s-block-eq-CLOSE
returns-else-s-block-eq-CLOSE c = rw (lt-ltb _ _ c.if-s-block.false, ne_eqb _ _ c.if-s-block-eq-CLOSE.false)
