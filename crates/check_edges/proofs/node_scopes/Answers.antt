-- `check_edges::node_scopes` meets its contract: after c turns the begins and the ends of the first c constructs have their scopes.
-- Assumes nothing.
use mathlib.Core.Path.{◌∙◌}
use Prim.Native.Nat.{◌≤◌, ◌<◌}
use native.Mathlib.Omega.{arith}
use lib.ListN.{length}
use Rattle.chart.specs.Format.{decode}
use Rattle.chart.specs.Scope.{parent_of}
use Rattle.chart.proofs.Facts.{frames-fit}
use Rattle.chart.proofs.Reading.{begin, end}
use Rattle.chart.proofs.Records.{nodes-length, constructs-length}
use Rattle.check_edges.proofs.Scopes.{filled_more, filled-all}
use Rattle.check_edges.proofs.node_scopes.Goals as goal

pub loop-c-preserved : goal.loop-c-preserved
unfolding parent_of
loop-c-preserved c =
    let laid = c.requires.0 in
    let D = decode c.args.s.now in
    let fit = frames-fit D c.requires.2 in
    let n = nodes-length _ c.args.chart laid in
    let nodes : c.args.chart.nodes < 256 = omega (arith, laid.nodes-most) in
    let below : c.loop-c.c < length D.constructs = omega (arith, constructs-length _ c.args.chart laid) in
    let parent = c.from-parent.ensures ∙ c.read.ensures.1 in
    let byte : c.from-parent.result < 256 = omega arith in (
      omega arith,
      filled_more begin n nodes (fit.ends c.loop-c.c below) (c.from.ensures ∙ c.requires.4.at c.loop-c.c below) c.loop-c.invariant.1 parent byte,
      filled_more end n nodes (fit.begins c.loop-c.c below) (c.from-in-loop-c.ensures ∙ c.requires.3.at c.loop-c.c below) c.loop-c.invariant.2 parent byte,
    )

pub returns : goal.returns
returns c =
    let laid = c.requires.0 in
    let D = decode c.args.s.now in
    let n = nodes-length _ c.args.chart laid in
    let all : length D.constructs ≤ c.loop-c.c = omega (arith, constructs-length _ c.args.chart laid) in
    (filled-all begin c.requires.1 n all c.loop-c.invariant.1, filled-all end c.requires.1 n all c.loop-c.invariant.2)
