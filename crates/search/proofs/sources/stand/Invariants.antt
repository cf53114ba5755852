-- The invariants and measures of `search::sources::stand`.
use Rattle.search.specs.Fed.{Owned}
use Rattle.search.proofs.sources.stand.Given as goal

abbrev pub invariant-loop-b : goal.invariant-loop-b
invariant-loop-b l = Owned l.sources l.b l.own
