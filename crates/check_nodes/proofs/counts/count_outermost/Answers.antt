-- `check_nodes::counts::count_outermost` meets its contract: after x turns the barriers among the first x nodes are counted.
-- Assumes nothing.
use mathlib.Core.Path.{◌≡◌, refl, ap, ◌∙◌}
use Prim.Native.Nat.{ℕ, ◌+◌}
use native.Mathlib.Omega.{arith}
use lib.ListN.{length}
use Rattle.lists.specs.Range.{count, count_most, count-more}
use Rattle.chart.specs.Format.{outside, decode}
use Rattle.chart.specs.Refusal.{barrier_of}
use Rattle.chart.proofs.Records.{nodes-length}
use Rattle.check_nodes.proofs.counts.count_outermost.Goals as goal

pub loop-x-init : goal.loop-x-init
unfolding count
loop-x-init c = (omega arith, refl)

pub overflow_add-found : goal.overflow_add-found
unfolding barrier_of
overflow_add-found c =
    let next : c.loop-x.found + c.outermost-found.result ≡ count (c.loop-x.x + 1) (barrier_of (decode c.args.s.now).nodes outside) =
    let r = c.read.ensures in
    cc (c.loop-x.invariant.1, c.outermost-found.ensures, r.0, r.1, count-more c.loop-x.x (barrier_of (decode c.args.s.now).nodes outside)) in
    omega (arith, next, count_most (c.loop-x.x + 1) (barrier_of (decode c.args.s.now).nodes outside), c.requires.nodes-most)

pub loop-x-preserved : goal.loop-x-preserved
unfolding barrier_of
loop-x-preserved c =
    let next : c.loop-x.found + c.outermost-found.result ≡ count (c.loop-x.x + 1) (barrier_of (decode c.args.s.now).nodes outside) =
    let r = c.read.ensures in
    cc (c.loop-x.invariant.1, c.outermost-found.ensures, r.0, r.1, count-more c.loop-x.x (barrier_of (decode c.args.s.now).nodes outside)) in
    (omega arith, next)

pub returns : goal.returns
returns c =
    let nodes = (decode c.args.s.now).nodes in
    let q : c.loop-x.x ≡ length nodes = omega (arith, nodes-length _ c.args.chart c.requires) in
    c.loop-x.invariant.1 ∙ ap (λ (k : ℕ). count k (barrier_of nodes outside)) q
