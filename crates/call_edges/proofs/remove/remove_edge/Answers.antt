-- `call_edges::remove::remove_edge` meets its contract.
-- Assumes nothing.
use Rattle.std.proofs.Common.{◌≡◌, Err, rules, sym, ◌∙◌}
use mathlib.Core.Option.{none}
use Rattle.chart.specs.Refusal.{first_of}
use Rattle.call_edges.specs.Asking.{front_rows}
use Rattle.call_edges.proofs.CheckLaws.{passed_none, refused-some, front-admitted}
use Rattle.call_edges.proofs.RemoveLaws.{front-refused, front-passed}
use Rattle.call_edges.proofs.remove.remove_edge.Goals as goal

pub remove_from-requires : goal.remove_from-requires
remove_from-requires c =
    let passes : first_of (front_rows c.args.buffer.now c.args.len) ≡ none =
    (passed_none _ _ (sym c.check_front.ensures ∙ c.in_ok-chart.was)).0 in
    let (l, admits) = front-admitted c.args.buffer.now c.args.len passes in
    (l, (admits, (passed_none _ _ (sym c.check_front.ensures ∙ c.in_ok-chart.was)).1))

pub returns-in_err-chart : goal.returns-in_err-chart
returns-in_err-chart c =
    let h = refused-some _ _ (sym c.check_front.ensures ∙ c.in_err-chart.was) in
    let p = front-refused c.args.buffer.now c.args.len c.args.from c.args.to _ h in
    let same : c.from_residual.result ≡ Err c.in_err-chart.field-0.0 = search rules in
    record { value = same ∙ p.0; buffer_after = p.1 }

pub returns : goal.returns
returns c =
    let passes : first_of (front_rows c.args.buffer.now c.args.len) ≡ none =
    (passed_none _ _ (sym c.check_front.ensures ∙ c.in_ok-chart.was)).0 in
    let edge = c.edge_between.ensures in
    let p = front-passed c.args.buffer.now c.args.len c.args.from c.args.to passes
    (rw (edge.0, edge.1) at c.remove_from.ensures.value) (rw (edge.0, edge.1) at c.remove_from.ensures.buffer_after) in
    record { value = p.0; buffer_after = p.1 }
