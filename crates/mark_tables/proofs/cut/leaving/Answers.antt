-- `mark_tables::cut::leaving` meets its contract: after x turns the flags of the first x nodes stand.
-- Assumes nothing.
use mathlib.Core.Path.{◌∙◌}
use Prim.Native.Nat.{ℕ}
use native.Mathlib.Omega.{arith}
use lib.ListN.{length-set, length-replicate}
use Rattle.lists.specs.Store.{written_none, written-more, written_all}
use Rattle.chart.proofs.Records.{nodes-length}
use Rattle.mark_tables.proofs.Cutting.{leaving-turn, leaving-past}
use Rattle.mark_tables.proofs.cut.leaving.Goals as goal

pub loop-x-init : goal.loop-x-init
loop-x-init c = (omega arith, length-replicate {A = ℕ} 192 0, written_none _ 192)

pub loop-x-preserved : goal.loop-x-preserved
loop-x-preserved c =
    let (A, inner) = c.requires in
    let (below, long, flags) = c.loop-x.invariant in (
      omega arith,
      length-set c.loop-x.flags _ _ ∙ long,
      written-more _ (omega (arith, A.laid.nodes-most))
          (leaving-turn _ c.args.chart A inner c.loop-x.x _ _ _ _ c.read.ensures.0 c.read.ensures.1 c.within.ensures c.leaves.ensures) flags,
    )

pub returns : goal.returns
returns c =
    let (A, inner) = c.requires in
    let (below, long, flags) = c.loop-x.invariant in
    record { at = written_all flags (λ y m. leaving-past _ c.args.chart A inner y (omega (arith, nodes-length _ c.args.chart A.laid))) }
