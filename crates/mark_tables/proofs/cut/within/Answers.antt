-- `mark_tables::cut::within` meets its contract: after c turns the flags of the first c constructs stand.
-- Assumes nothing.
use mathlib.Core.Path.{◌≡◌, ◌∙◌}
use Prim.Native.Nat.{ℕ}
use native.Mathlib.Omega.{arith}
use lib.ListN.{length, length-set, length-replicate}
use Rattle.lists.specs.Store.{written_none, written-more}
use Rattle.chart.specs.Format.{decode}
use Rattle.chart.specs.Scope.{parent_of}
use Rattle.chart.proofs.Records.{constructs-length}
use Rattle.mark_tables.proofs.Cutting.{within-turn}
use Rattle.mark_tables.proofs.cut.within.Goals as goal

pub loop-c-init : goal.loop-c-init
loop-c-init c = (omega arith, length-replicate {A = ℕ} 256 0, written_none _ 256)

pub loop-c-preserved : goal.loop-c-preserved
unfolding parent_of
loop-c-preserved c =
    let (A, inner) = c.requires in
    let (below, long, flags) = c.loop-c.invariant in
    let size = constructs-length _ c.args.chart A.laid in (
      omega arith,
      length-set c.loop-c.flags _ _ ∙ long,
      written-more _ (omega (arith, A.laid.constructs-most))
          (within-turn _ c.args.chart A inner c.loop-c.c _ _ _ (omega arith) (c.read-parent.ensures.1) c.lies.ensures flags) flags,
    )

pub returns : goal.returns
returns c =
    let q : c.loop-c.c ≡ length (decode c.args.s.now).constructs = omega (arith, constructs-length _ c.args.chart c.requires.0.laid) in
    rw q at c.loop-c.invariant.2
