-- `call_edges::ask::ask_into` meets its contract.
-- Assumes nothing.
use Rattle.std.proofs.Common.{◌≡◌, Err, rules, sym, ◌∙◌}
use mathlib.Core.Option.{none}
use Prim.Native.Nat.{◌≤◌}
use native.Mathlib.Omega.{arith}
use lib.ListN.{length, take}
use lib.Seq.{length-take-le}
use Rattle.chart.specs.Refusal.{first_of}
use Rattle.theory_paths.specs.Admission.{Admitted}
use Rattle.call_edges.specs.Asking.{front_rows}
use Rattle.call_edges.proofs.CheckLaws.{passed_none, refused-some, chart-most, front-admitted}
use Rattle.call_edges.proofs.AskLaws.{apart, front-refused, front-passed, asked-as-bytes, inserted-as-bytes}
use Rattle.call_edges.proofs.ask.ask_into.Goals as goal

pub slice_bounds-ask_longer-end : goal.slice_bounds-ask_longer-end
slice_bounds-ask_longer-end c =
    let passes : first_of (front_rows c.args.buffer.now c.args.len) ≡ none =
    (passed_none _ _ (sym c.check_front.ensures ∙ c.in_ok-chart.was)).0 in
    let present : (c.args.len ≤ length c.args.buffer.now) × Admitted (take c.args.len c.args.buffer.now) =
    front-admitted c.args.buffer.now c.args.len passes in
    sym (length-take-le _ _ present.0)

pub ask_longer-requires : goal.ask_longer-requires
ask_longer-requires c =
    let passes : first_of (front_rows c.args.buffer.now c.args.len) ≡ none =
    (passed_none _ _ (sym c.check_front.ensures ∙ c.in_ok-chart.was)).0 in
    let present : (c.args.len ≤ length c.args.buffer.now) × Admitted (take c.args.len c.args.buffer.now) =
    front-admitted c.args.buffer.now c.args.len passes in
    ((present.1, (passed_none _ _ (sym c.check_front.ensures ∙ c.in_ok-chart.was)).1), c.requires)

pub returns-in_err-chart : goal.returns-in_err-chart
returns-in_err-chart c =
    let h = refused-some _ _ (sym c.check_front.ensures ∙ c.in_err-chart.was) in
    let same : c.from_residual.result ≡ Err c.in_err-chart.field-0.0 = search rules in
    record { value = same ∙ front-refused c.args.buffer.now c.args.len c.args.from c.args.to _ h; len_bound = λ receipt q. absurd (apart (sym same ∙ q)) }

pub returns : goal.returns
returns c =
    let passes : first_of (front_rows c.args.buffer.now c.args.len) ≡ none =
    (passed_none _ _ (sym c.check_front.ensures ∙ c.in_ok-chart.was)).0 in
    let present : (c.args.len ≤ length c.args.buffer.now) × Admitted (take c.args.len c.args.buffer.now) =
    front-admitted c.args.buffer.now c.args.len passes in
    let edge = c.edge_between.ensures in
    let buffer = c.args.buffer.now in
    let len = c.args.len in
    let x = c.args.from in
    let y = c.args.to in
    let (l, admits) = present in
    let long = length-take-le len buffer l in
    let is = rw (edge.0, edge.1) at c.ask_longer.ensures.value ∙ asked-as-bytes (take len buffer) admits x y in record {
      value = is ∙ front-passed buffer len x y passes;
      len_bound = λ receipt q. (
        omega (arith, chart-most (take len buffer) admits, long),
        rw (edge.0, edge.1, long) at c.ask_longer.ensures.longer_after ∙ inserted-as-bytes (take len buffer) admits x y (sym is ∙ q),
      );
    }
