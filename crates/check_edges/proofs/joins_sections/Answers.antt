-- `check_edges::joins_sections` meets its contract: after i turns the first i edges are asked.
-- Assumes nothing.
use mathlib.Core.Path.{◌≡◌, refl, ap, ◌∙◌}
use Prim.Native.Nat.{ℕ}
use native.Mathlib.Omega.{arith}
use lib.ListN.{length}
use Rattle.lists.specs.Flags.{flag-asks}
use Rattle.lists.specs.Range.{any}
use Rattle.chart.specs.Format.{decode}
use Rattle.chart.specs.Refusal.{joins_sections}
use Rattle.chart.proofs.Records.{edges-length, constructs-length}
use Rattle.check_edges.proofs.Sections.{joins-more}
use Rattle.check_edges.proofs.joins_sections.Goals as goal

pub loop-i-init : goal.loop-i-init
unfolding any
loop-i-init c = (omega arith, refl)

pub loop-i-preserved : goal.loop-i-preserved
loop-i-preserved c =
    let all = constructs-length _ c.args.chart c.requires.0 in
    let from = c.from.ensures in
    let to = c.from-in-loop-i.ensures in
    let t = c.mark_sections.ensures in (
      omega arith,
      joins-more c.loop-i.i c.requires.1 (omega arith) t.0 t.1 (omega arith) (omega arith)
          (from ∙ c.read-edge.ensures.0) (to ∙ c.read-edge.ensures.1) c.loop-i.invariant.1,
    )

pub returns : goal.returns
returns c =
    let D = decode c.args.s.now in
    let q : c.loop-i.i ≡ length D.edges = omega (arith, edges-length _ c.args.chart c.requires.0) in
    rw (c.loop-i.invariant.1, flag-asks) (ap (λ (k : ℕ). any k (joins_sections D)) q)
