-- `call_edges::splice::place_of` meets its contract: after i turns the first i edges are counted.
-- Assumes nothing.
use mathlib.Core.Path.{◌≡◌, refl, ◌∙◌}
use native.Mathlib.Omega.{arith}
use lib.ListN.{length}
use Rattle.lists.specs.Range.{count}
use Rattle.chart.specs.Format.{decode}
use Rattle.chart.proofs.Records.{edges-length}
use Rattle.theory_edits.specs.Splice.{place}
use Rattle.call_edges.proofs.Splicing.{byte_most, place-more}
use Rattle.call_edges.proofs.splice.place_of.Goals as goal

pub loop-i-init : goal.loop-i-init
unfolding count
loop-i-init c = (omega arith, refl)

pub overflow_add-sum : goal.overflow_add-sum
overflow_add-sum c = omega (arith, c.from-sum.ensures, byte_most c.rising.result)

pub loop-i-preserved : goal.loop-i-preserved
loop-i-preserved c =
    let edge = c.args.edge in (
      omega (arith, c.from-sum.ensures, byte_most c.rising.result),
      place-more (decode c.args.s.now).edges edge.from edge.to c.loop-i.i c.loop-i.invariant.1 (c.from-sum.ensures ∙ rw (c.rising.ensures, c.read.ensures.0, c.read.ensures.1)),
    )

pub returns : goal.returns
unfolding place
returns c =
    let L = c.requires in
    let all : c.loop-i.i ≡ length (decode c.args.s.now).edges = omega (arith, edges-length _ _ L) in (rw all at c.loop-i.invariant.1, omega arith)
