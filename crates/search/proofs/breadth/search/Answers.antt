-- `search::breadth::search` meets its contract: the state goes on at some level, until the queue's end is met. Assumes nothing.
use native.Mathlib.Omega.{arith}
use Rattle.search.proofs.BreadthTurns.{node-turn, found, turn-within}
use Rattle.search.proofs.breadth.search.Goals as goal

pub loop-head-init : goal.loop-head-init
loop-head-init c = (1, c.seed-tail.ensures)

pub bounds-queue-head : goal.bounds-queue-head
bounds-queue-head c = omega (arith, (turn-within c.loop-head.invariant.1 c.loop-head-test.true).early)

pub bounds-levels-x : goal.bounds-levels-x
bounds-levels-x c = (turn-within c.loop-head.invariant.1 c.loop-head-test.true).node

pub overflow_add-level : goal.overflow_add-level
overflow_add-level c = omega (arith, (turn-within c.loop-head.invariant.1 c.loop-head-test.true).short)

pub expand-tail-requires : goal.expand-tail-requires
expand-tail-requires c =
    let w = turn-within c.loop-head.invariant.1 c.loop-head-test.true in
    (c.loop-head.invariant.1.queued.room, w.node, omega arith, c.requires.total_bound.1)

pub overflow_add-head : goal.overflow_add-head
overflow_add-head c = omega (arith, (turn-within c.loop-head.invariant.1 c.loop-head-test.true).early)

pub loop-head-smaller : goal.loop-head-smaller
loop-head-smaller c = omega (arith, (turn-within c.loop-head.invariant.1 c.loop-head-test.true).early)

pub loop-head-preserved : goal.loop-head-preserved
loop-head-preserved c = (_, node-turn _ _ _ _ _ c.requires.total_bound.1 c.loop-head.invariant.1 (omega arith) c.expand-tail.ensures)

pub returns : goal.returns
returns c = found _ _ _ _ _ c.loop-head.invariant.1 (omega arith)
