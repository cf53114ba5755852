-- `mark_tables::closed::close_region` meets its contract: after x turns the flags of the first x nodes stand.
-- Assumes nothing.
use mathlib.Core.Path.{◌≡◌, ◌∙◌}
use mathlib.Core.Bool.{cond}
use native.Mathlib.Omega.{arith}
use lib.ListN.{length-set}
use Rattle.lists.specs.Store.{stored}
use Rattle.chart.specs.Checked.{reading}
use Rattle.chart.proofs.Records.{nodes-length}
use Rattle.theory_answers.specs.Numbers.{asked}
use Rattle.mark_tables.proofs.Accepted.{region-byte}
use Rattle.mark_tables.proofs.Cutting.{closed-turn}
use Rattle.mark_tables.proofs.closed.close_region.Goals as goal

pub region_byte-region-requires : goal.region_byte-region-requires
region_byte-region-requires c = region-byte _ c.args.chart c.requires.0

pub loop-x-preserved : goal.loop-x-preserved
loop-x-preserved c =
    let (A, inner) = c.requires in
    let (below, long, closed) = c.loop-x.invariant in
    let R = reading c.args.s.now c.args.chart in (
      omega arith,
      length-set c.loop-x.closed _ _ ∙ long,
      stored (λ y v. v ≡ cond (asked R y) 0 1) c.loop-x.closed c.loop-x.x _ (omega (arith, A.laid.nodes-most))
          (closed-turn _ c.args.chart A inner c.loop-x.x _ _ _ _ (omega (arith, nodes-length _ c.args.chart A.laid))
          c.read.ensures.0 c.read.ensures.1 c.within.ensures (rw c.region_byte-region.ensures at c.shut.ensures)) closed,
    )

pub returns : goal.returns
returns c =
    let (A, inner) = c.requires in
    record { at = λ y m. c.loop-x.invariant.2 y (omega (arith, nodes-length _ c.args.chart A.laid)) }
