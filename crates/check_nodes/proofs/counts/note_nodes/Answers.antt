-- `check_nodes::counts::note_nodes` meets its contract: after x turns the nodes below x are noted.
-- Assumes nothing.
use Prim.Native.Nat.{◌≤◌}
use native.Mathlib.Omega.{arith}
use Rattle.chart.specs.Format.{decode}
use Rattle.check_nodes.proofs.Framing.{noted-none, noted_more, in_order}
use Rattle.check_nodes.proofs.counts.note_nodes.Goals as goal

pub loop-x-init : goal.loop-x-init
loop-x-init c = (omega arith, omega arith, rw c.requires.2 (noted-none _))

pub bounds-noted-kind : goal.bounds-noted-kind
bounds-noted-kind c =
    let known : c.from-kind.result ≤ 3 =
    omega (arith, c.from-kind.ensures, c.read-node.ensures.0, (in_order _ c.args.chart c.requires.0 c.requires.1 c.loop-x.x (omega arith)).0) in
    omega (arith, known)

pub loop-x-preserved : goal.loop-x-preserved
loop-x-preserved c =
    let known : c.from-kind.result ≤ 3 =
    omega (arith, c.from-kind.ensures, c.read-node.ensures.0, (in_order _ c.args.chart c.requires.0 c.requires.1 c.loop-x.x (omega arith)).0) in
    let r = c.read-node.ensures in
    let x = c.loop-x.x in
    let more = noted_more (decode c.args.s.now) {x = x} (in_order _ c.args.chart c.requires.0 c.requires.1 x (omega arith)).0 c.loop-x.invariant.2 in
    (omega arith, omega (arith, known), rw (c.from-kind.ensures, c.from.ensures, r.0, r.1) more)
