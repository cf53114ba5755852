-- The invariants and measures of `search::sources::mark`.
use mathlib.Core.Path.{◌≡◌}
use lib.ListN.{length}
use Rattle.search.specs.Fed.{Stored}
use Rattle.search.proofs.sources.mark.Given as goal

abbrev pub invariant-loop-x : goal.invariant-loop-x
invariant-loop-x l = (length l.levels ≡ 192) × Stored 1 l.nodes l.x-index l.initial.levels l.levels
