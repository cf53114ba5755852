-- `search::breadth::seed` meets its contract: after b turns the state is that after b sources. Assumes nothing.
use native.Mathlib.Omega.{arith}
use Rattle.search.proofs.BreadthTurns.{source-turn}
use Rattle.search.proofs.breadth.seed.Goals as goal

pub loop-source-preserved : goal.loop-source-preserved
loop-source-preserved c =
    source-turn _ _ _ _ _ c.requires.total_bound.1 c.loop-source.invariant (omega arith) c.expand-tail.ensures
