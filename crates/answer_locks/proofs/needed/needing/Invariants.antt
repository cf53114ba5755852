-- The invariants and measures of `answer_locks::needed::needing`.
use Rattle.answer_locks.specs.Search.{has_named}
use Rattle.answer_locks.proofs.Picking.{Picking}
use Rattle.answer_locks.proofs.needed.needing.Given as goal

abbrev pub invariant-loop-rest : goal.invariant-loop-rest
invariant-loop-rest l = Picking l.mask (has_named l.set l.named) l.rest l.found

abbrev pub decreases-loop-rest : goal.decreases-loop-rest
decreases-loop-rest l = l.rest
