-- The invariants and measures of `masks::unions::join`.
use Rattle.masks.proofs.Passes.{Joining}
use Rattle.masks.proofs.unions.join.Given as goal

abbrev pub invariant-loop-rest : goal.invariant-loop-rest
invariant-loop-rest l = Joining l.mask l.low l.rest l.union.low × Joining l.mask l.middle l.rest l.union.middle × Joining l.mask l.high l.rest l.union.high

abbrev pub decreases-loop-rest : goal.decreases-loop-rest
decreases-loop-rest l = l.rest
