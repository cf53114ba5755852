-- The invariants and measures of `search::breadth::expand`.
use Prim.Native.Nat.{◌+◌}
use lib.ListN.{get_or}
use Rattle.search.specs.Steps.{Room, Run}
use Rattle.search.proofs.breadth.expand.Given as goal

abbrev pub invariant-loop-y : goal.invariant-loop-y
invariant-loop-y l =
    let a = get_or l.places l.x 0 in
    Room l.levels l.queue l.tail × Run l.values l.level a l.initial.levels l.initial.queue l.before (a + l.y-index) l.levels l.queue l.tail
