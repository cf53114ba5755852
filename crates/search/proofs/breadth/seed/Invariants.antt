-- The invariants and measures of `search::breadth::seed`.
use lib.ListN.{length}
use Rattle.search.specs.Steps.{Leads}
use Rattle.search.specs.Invariant.{State}
use Rattle.search.proofs.breadth.seed.Given as goal

abbrev pub invariant-loop-source : goal.invariant-loop-source
invariant-loop-source l = State (Leads l.values l.places) l.initial.levels l.sources (length l.sources) l.source-index 1 0 l.levels l.queue l.tail
