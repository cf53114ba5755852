-- The invariants and measures of `search::sources::sow`.
use Rattle.search.specs.Fed.{Sowed}
use Rattle.search.specs.Levels.{Each, Begins}
use Rattle.search.proofs.sources.sow.Given as goal

abbrev pub invariant-loop-b : goal.invariant-loop-b
invariant-loop-b l = Sowed l.values l.places l.sources l.b l.masks × Each Begins l.masks l.levels
