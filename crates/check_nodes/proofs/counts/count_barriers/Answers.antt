-- `check_nodes::counts::count_barriers` meets its contract.
-- Assumes nothing.
use native.Mathlib.Omega.{arith}
use Rattle.check_nodes.proofs.Counted.{count-on, counted-most}
use Rattle.check_nodes.proofs.counts.count_barriers.Goals as goal

pub count_if-requires : goal.count_if-requires
count_if-requires c =
    let C = c.loop-x.invariant.1 in
    (C.long, λ i. omega (arith, counted-most _ C i, c.requires.0.nodes-most))

pub loop-x-preserved : goal.loop-x-preserved
loop-x-preserved c =
    (omega arith, count-on _ c.loop-x.invariant.1 c.read-node.ensures.0 c.read-node.ensures.1 c.count_if.ensures.0 c.count_if.ensures.1)
