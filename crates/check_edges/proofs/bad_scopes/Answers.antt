-- `check_edges::bad_scopes` meets its contract.
-- Assumes nothing.
use Rattle.std.proofs.Common.{sym, ◌∙◌, arith}
use Rattle.chart.specs.Format.{decode}
use Rattle.chart.proofs.Records.{nodes-length, edges-length}
use Rattle.check_edges.proofs.Order.{order-bad, order-good}
use Rattle.check_edges.proofs.Scopes.{shut_at}
use Rattle.check_edges.proofs.bad_scopes.Goals as goal

pub bad_edges_by-requires : goal.bad_edges_by-requires
bad_edges_by-requires c =
    let n = nodes-length _ c.args.chart c.requires.0 in
    (c.requires.0, shut_at n (omega (arith, c.requires.0.two-nodes)) c.node_scopes-scopes.ensures.0 c.node_scopes-scopes.ensures.1)

pub returns-then-bad_order : goal.returns-then-bad_order
returns-then-bad_order c =
    let s = c.args.s.now in
    c.if-bad_order.true ∙ sym (order-bad (decode s) _ (edges-length s c.args.chart c.requires.0) (sym c.bad_order.ensures ∙ c.if-bad_order.true))

pub returns-else-bad_order : goal.returns-else-bad_order
returns-else-bad_order c =
    let s = c.args.s.now in
    c.bad_edges_by.ensures
    ∙ order-good (decode s) _ (edges-length s c.args.chart c.requires.0) (sym c.bad_order.ensures ∙ c.if-bad_order.false)
