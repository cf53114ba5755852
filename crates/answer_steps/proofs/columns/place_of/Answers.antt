-- `answer_steps::columns::place_of` meets its contract.
-- Assumes nothing.
use mathlib.Core.Path.{sym, ◌∙◌, ap}
use Prim.Native.Nat.{ℕ, ◌≤◌, ◌<◌}
use native.Mathlib.Omega.{arith}
use Rattle.chart.specs.Format.{decode, node_at, construct_at}
use Rattle.chart.specs.Scope.{begin_node, parent_of, lies_at}
use Rattle.chart.proofs.Records.{constructs-length}
use Rattle.chart.proofs.Scopes.{lies-number, lies-parent}
use Rattle.answer_constructs.proofs.Nodes.{frame-number}
use Rattle.answer_steps.proofs.columns.place_of.Goals as goal

pub returns-then-node-lt-BEGIN : goal.returns-then-node-lt-BEGIN
unfolding lies_at
returns-then-node-lt-BEGIN c =
    let f = c.read-node.ensures in
    let l : (node_at (decode c.args.s.now).nodes c.args.x).kind < begin_node = omega (arith, f.0, c.if-node-lt-BEGIN.true) in
    f.1 ∙ sym (lies-number _ _ l)

pub read-requires : goal.read-requires
read-requires c =
    let f = c.read-node.ensures in
    let l : begin_node ≤ (node_at (decode c.args.s.now).nodes c.args.x).kind = omega (arith, f.0, c.if-node-lt-BEGIN.false) in
    (c.requires.0.laid, omega (arith, c.from.ensures, f.1, frame-number _ c.args.chart c.requires.0 c.args.x l, constructs-length _ c.args.chart c.requires.0.laid))

pub returns : goal.returns
unfolding lies_at parent_of
returns c =
    let f = c.read-node.ensures in
    let l : begin_node ≤ (node_at (decode c.args.s.now).nodes c.args.x).kind = omega (arith, f.0, c.if-node-lt-BEGIN.false) in
    c.read.ensures.1 ∙ ap (λ (n : ℕ). (construct_at (decode c.args.s.now).constructs n).parent) (c.from.ensures ∙ f.1) ∙ sym (lies-parent _ _ l)
