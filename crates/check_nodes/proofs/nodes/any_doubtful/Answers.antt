-- `check_nodes::nodes::any_doubtful` meets its contract: after x turns the first x nodes are asked.
-- Assumes nothing.
use mathlib.Core.Path.{◌≡◌, refl, ap, ◌∙◌}
use Prim.Native.Nat.{ℕ}
use native.Mathlib.Omega.{arith}
use lib.ListN.{length}
use Rattle.lists.specs.Range.{any, any_next}
use Rattle.chart.specs.Format.{decode}
use Rattle.chart.proofs.Records.{nodes-length, constructs-length}
use Rattle.check_nodes.specs.Parts.{doubtful_at}
use Rattle.check_nodes.proofs.nodes.any_doubtful.Goals as goal

pub loop-x-init : goal.loop-x-init
unfolding any
loop-x-init c =
    (omega arith, omega (arith, constructs-length _ c.args.chart c.requires, c.requires.constructs-most), refl)

pub loop-x-preserved : goal.loop-x-preserved
loop-x-preserved c =
    let r = c.read.ensures in
    let i = c.loop-x.invariant in
    let D = decode c.args.s.now in
    (omega arith, i.1, cc (i.1, i.2, c.doubtful-found.ensures, r.0, r.1, any_next c.loop-x.x (doubtful_at D)))

pub returns : goal.returns
returns c =
    let D = decode c.args.s.now in
    let q : c.loop-x.x ≡ length D.nodes = omega (arith, nodes-length _ c.args.chart c.requires) in
    c.loop-x.invariant.2 ∙ ap (λ (k : ℕ). any k (doubtful_at D)) q
