-- The invariants and measures of `search::waiting::enter_all`.
use Rattle.search.proofs.Waits.{Entering}
use Rattle.search.proofs.waiting.enter_all.Given as goal

abbrev pub invariant-loop-x : goal.invariant-loop-x
invariant-loop-x l = Entering l.x l.held l.ring
