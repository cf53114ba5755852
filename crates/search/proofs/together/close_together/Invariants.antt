-- The invariants and measures of `search::together::close_together`.
use Rattle.search.specs.Parts.{row}
use Rattle.search.proofs.Abreast.{Nearing}
use Rattle.search.proofs.together.close_together.Given as goal

abbrev pub invariant-loop-new : goal.invariant-loop-new
invariant-loop-new l =
    Nearing (row l.edges 2) (row l.edges 3) l.parts.ups l.parts.low l.initial.starts l.initial.levels l.initial.ends l.starts l.levels l.ends l.new

abbrev pub decreases-loop-new : goal.decreases-loop-new
decreases-loop-new l = l.left
