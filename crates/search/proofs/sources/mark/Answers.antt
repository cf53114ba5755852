-- `search::sources::mark` meets its contract: after some turns the nodes so far have a mark. Assumes nothing.
use mathlib.Core.Path.{◌∙◌}
use native.Mathlib.Omega.{arith}
use lib.ListN.{length-set}
use lib.Seq.{get_or-set_same}
use Rattle.search.proofs.Storing.{stored_more}
use Rattle.search.proofs.sources.mark.Goals as goal

pub loop-x-preserved : goal.loop-x-preserved
loop-x-preserved c =
    let (long, stored) = c.loop-x.invariant in
    let node = c.requires.by_index c.loop-x.x-index in
    (length-set c.loop-x.levels _ 1 ∙ long, stored_more _ c.loop-x.x-index _ c.loop-x.levels (get_or-set_same c.loop-x.levels _ 1 0 (omega (arith, long, node))) stored)
