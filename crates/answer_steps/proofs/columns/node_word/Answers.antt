-- `answer_steps::columns::node_word` meets its contract.
-- Assumes nothing.
use mathlib.Core.Path.{sym, ◌∙◌, ap, subst}
use Prim.Native.Nat.{ℕ, ◌≤◌, ◌<◌}
use native.Mathlib.Omega.{arith}
use borrow.Author.Tests.{eq-eqb, ne_eqb, lt-ltb, le-ltb}
use Rattle.chart.specs.Format.{decode, node_at}
use Rattle.chart.proofs.Records.{constructs-length}
use Rattle.chart.proofs.Tables.{lies-below}
use Rattle.chart.proofs.Tree.{Below}
use Rattle.mark_tables.proofs.Accepted.{tables}
use Rattle.answer_constructs.specs.Chains.{mask_at}
use Rattle.answer_constructs.proofs.Constructs.{index_below}
use Rattle.answer_constructs.proofs.Nodes.{frame-number}
use lib.ListN.{length}
use Rattle.answer_steps.specs.Words.{node_word}
use Rattle.answer_steps.proofs.Around.{around-node}
use Rattle.answer_steps.proofs.columns.node_word.Goals as goal

pub role_code-requires : goal.role_code-requires
role_code-requires c =
    let f = c.read-node.ensures in
    λ l. omega (arith, f.1, frame-number _ c.args.chart c.requires.0 c.args.x (subst (λ (k : ℕ). 2 ≤ k) f.0 l), constructs-length _ c.args.chart c.requires.0.laid, c.requires.0.laid.constructs-most)

pub returns-then-which-eq0 : goal.returns-then-which-eq0
unfolding node_word
returns-then-which-eq0 c =
    let f = c.read-node.ensures in
    rw (eq-eqb _ _ c.if-which-eq0.true, ← f.0, ← f.1) c.role_code.ensures

pub mask_at-requires : goal.mask_at-requires
mask_at-requires c =
    let D = decode c.args.s.now in
    index_below (omega (arith, constructs-length _ c.args.chart c.requires.0.laid, c.requires.0.laid.constructs-most))
    (subst (Below (length D.constructs)) (sym c.place_of.ensures) (lies-below D (tables _ c.args.chart c.requires.0) c.args.x))

pub returns-then-which-ne1 : goal.returns-then-which-ne1
unfolding node_word
returns-then-which-ne1 c =
    rw (ne_eqb _ _ c.if-which-eq0.false, ne_eqb _ _ c.if-which-ne1.true)
    (c.mask_at.ensures ∙ ap (mask_at c.args.above.now) c.place_of.ensures
    ∙ around-node (tables _ c.args.chart c.requires.0) (sym (constructs-length _ c.args.chart c.requires.0.laid)) c.requires.0.laid.constructs-most c.requires.2 c.args.x)

pub returns-then-node-lt-BEGIN : goal.returns-then-node-lt-BEGIN
unfolding node_word
returns-then-node-lt-BEGIN c =
    let f = c.read-node.ensures in
    let l : (node_at (decode c.args.s.now).nodes c.args.x).kind < 2 = omega (arith, f.0, c.if-node-lt-BEGIN.true) in
    rw (ne_eqb _ _ c.if-which-eq0.false, eq-eqb _ _ c.if-which-ne1.false, lt-ltb _ _ l)

pub returns : goal.returns
unfolding node_word
returns c =
    let f = c.read-node.ensures in
    let l : 2 ≤ (node_at (decode c.args.s.now).nodes c.args.x).kind = omega (arith, f.0, c.if-node-lt-BEGIN.false) in
    rw (ne_eqb _ _ c.if-which-eq0.false, eq-eqb _ _ c.if-which-ne1.false, le-ltb _ _ l) f.1
