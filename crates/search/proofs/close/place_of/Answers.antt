-- `search::close::place_of` meets its contract. Assumes nothing.
use Rattle.search.proofs.Runs.{place-true, place-false}
use Rattle.search.proofs.close.place_of.Goals as goal

pub returns-then-back : goal.returns-then-back
returns-then-back c = place-true _ _ _ _ c.if-back.true

pub returns-else-back : goal.returns-else-back
returns-else-back c = place-false _ _ _ _ c.if-back.false
