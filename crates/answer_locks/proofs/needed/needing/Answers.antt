-- `answer_locks::needed::needing` meets its contract: the bits that are left wait.
-- Assumes nothing.
use Rattle.std.proofs.lemmas.Nat.{or_comm}
use Rattle.answer_locks.proofs.Picking.{picking-more}
use Rattle.answer_locks.proofs.needed.needing.Goals as goal
use Rattle.answer_locks.proofs.needed.needing.Goals.{then-has_named, else-has_named}

pub loop-rest-preserved : goal.loop-rest-preserved
loop-rest-preserved c =
    let more = picking-more _ c.loop-rest.invariant c.lowest-c.ensures in
    elim c.if-has_named.branch [
      | then-has_named w ↦ rw (w.found-is, w.bit-found.ensures, or_comm) (rw (← c.has_named.ensures, w.if-has_named.true) at more)
      | else-has_named w ↦ rw w.found-is (rw (← c.has_named.ensures, w.if-has_named.false) at more)
    ]
