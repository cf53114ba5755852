-- The invariants and measures of `search::telling::tell`.
use Rattle.search.specs.Levels.{Tells}
use Rattle.search.proofs.Writing.{Writing}
use Rattle.search.proofs.telling.tell.Given as goal

abbrev pub invariant-loop-level : goal.invariant-loop-level
invariant-loop-level l = Writing Tells l.initial.levels l.level-index l.initial.levels l.levels
