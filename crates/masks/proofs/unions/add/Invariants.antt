-- The invariants and measures of `masks::unions::add`.
use Rattle.masks.proofs.Passes.{Adding}
use Rattle.masks.proofs.unions.add.Given as goal

abbrev pub invariant-loop-rest : goal.invariant-loop-rest
invariant-loop-rest l = Adding l.initial.sets l.mask l.set l.rest l.sets

abbrev pub decreases-loop-rest : goal.decreases-loop-rest
decreases-loop-rest l = l.rest
