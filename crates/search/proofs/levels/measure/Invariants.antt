-- The invariants and measures of `search::levels::measure`.
use Prim.Native.Nat.{◌≤◌}
use Rattle.search.specs.LevelLaws.{nearer, Follows}
use Rattle.search.proofs.Turns.{Closing}
use Rattle.search.proofs.levels.measure.Given as goal

abbrev pub invariant-loop-new : goal.invariant-loop-new
invariant-loop-new l =
    Closing nearer Follows (λ d. d ≤ 254) l.keys l.values l.ups l.low l.initial.levels l.levels l.new

abbrev pub decreases-loop-new : goal.decreases-loop-new
decreases-loop-new l = l.left
