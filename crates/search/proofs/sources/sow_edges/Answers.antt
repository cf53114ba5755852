-- `search::sources::sow_edges` meets its contract: after some turns the bit has come along the edges so far.
-- Assumes nothing.
use mathlib.Core.Path.{◌∙◌}
use native.Mathlib.Omega.{arith}
use lib.ListN.{length-set}
use Rattle.search.proofs.Feeding.{fed-none, feed-turn}
use Rattle.search.proofs.Sowing.{begins-turn}
use Rattle.search.proofs.sources.sow_edges.Goals as goal

pub loop-y-init : goal.loop-y-init
loop-y-init c =
    let (some, long, begun) = c.requires.some in
    (long, fed-none (λ x y w. omega (arith, w.below)), begun)

pub loop-y-preserved : goal.loop-y-preserved
loop-y-preserved c =
    let (long, fed, begun) = c.loop-y.invariant in
    let below = c.requires.by_index c.loop-y.y-index in
    (length-set c.loop-y.masks _ _ ∙ long, feed-turn (omega arith) (omega (arith, long, below)) fed, begins-turn long below c.requires.some.0 begun)
