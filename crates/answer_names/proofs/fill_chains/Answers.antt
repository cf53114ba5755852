-- `answer_names::fill_chains` meets its contract. The loop's invariant: the masks of the constructs passed are there.
-- Assumes nothing.
use mathlib.Core.Path.{sym, subst}
use Prim.Native.Nat.{◌<◌}
use native.Mathlib.Omega.{arith}
use lib.ListN.{length}
use Rattle.chart.specs.Format.{decode}
use Rattle.chart.specs.Scope.{parent_of}
use Rattle.chart.proofs.Records.{constructs-length}
use Rattle.chart.proofs.Tree.{Below}
use Rattle.answer_constructs.proofs.Constructs.{index_below, parent-lower}
use Rattle.answer_names.proofs.Peers.{chains-next}
use Rattle.answer_names.proofs.fill_chains.Goals as goal

pub mask_at-requires : goal.mask_at-requires
unfolding parent_of
mask_at-requires c =
    let below : c.loop-c.c < length (decode c.args.s.now).constructs =
    omega (arith, constructs-length _ c.args.chart c.requires.0.laid) in
    index_below (omega (arith, c.requires.0.laid.constructs-most))
    (subst (Below c.loop-c.c) (sym c.read-construct.ensures.1) (parent-lower _ c.args.chart c.requires.0 c.loop-c.c below))

pub loop-c-preserved : goal.loop-c-preserved
unfolding parent_of
loop-c-preserved c =
    let below : c.loop-c.c < length (decode c.args.s.now).constructs =
    omega (arith, constructs-length _ c.args.chart c.requires.0.laid) in
    (omega arith, rw (c.mask_at.ensures, c.read-construct.ensures.1) (chains-next _ c.args.chart c.requires.0 c.loop-c.c below c.requires.1 c.loop-c.invariant.1))
