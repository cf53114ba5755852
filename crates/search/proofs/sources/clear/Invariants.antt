-- The invariants and measures of `search::sources::clear`.
use Rattle.search.specs.Fed.{Stored}
use Rattle.search.proofs.sources.clear.Given as goal

abbrev pub invariant-loop-x : goal.invariant-loop-x
invariant-loop-x l = Stored 0 l.nodes l.x-index l.initial.masks l.masks
