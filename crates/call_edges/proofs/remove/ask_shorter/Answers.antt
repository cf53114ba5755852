-- `call_edges::remove::ask_shorter` meets its contract.
-- Assumes nothing.
use Rattle.std.proofs.Common.{◌≡◌, Err, rules, sym, ◌∙◌}
use mathlib.Core.Path.{refl}
use mathlib.Core.Bool.{false, not}
use mathlib.Core.List.{[]}
use native.Mathlib.Omega.{arith}
use borrow.Author.Tests.{not-false}
use Rattle.chart.specs.Format.{decode}
use Rattle.chart.specs.Reading.{edge_in}
use Rattle.chart.specs.Checked.{Laid}
use Rattle.chart.proofs.Accepted.{laid}
use Rattle.chart.proofs.Records.{edges-length}
use Rattle.output.proofs.Outputs.{refused, passed}
use Rattle.theory_edits.specs.PlaceLaws.{at_place}
use Rattle.theory_edits.proofs.EditLaws.{admitted-rising}
use Rattle.call_edges.proofs.CheckLaws.{passed_none, refused-some, trailer-passes, chart-least, chart-most}
use Rattle.call_edges.proofs.RemoveLaws.{apart, no_edge, short-front}
use Rattle.call_edges.proofs.remove.ask_shorter.Goals as goal

pub place_of-place-requires : goal.place_of-place-requires
place_of-place-requires c = let ((admits, counts), long) = c.requires in rw counts (laid _ (trailer-passes _ admits))

pub lacks_edge-requires : goal.lacks_edge-requires
lacks_edge-requires c =
    let ((admits, counts), long) = c.requires in
    (rw counts (laid _ (trailer-passes _ admits)), admitted-rising _ admits, c.place_of-place.ensures.0)

pub returns-then-lacks_edge : goal.returns-then-lacks_edge
returns-then-lacks_edge c =
    let none-such = no_edge c.args.s.now c.args.edge.from c.args.edge.to (sym c.lacks_edge.ensures ∙ c.if-lacks_edge.true) in
    record { value = (refused _ _ [] [] none-such).0; by_index = λ count q. absurd (apart q) }

pub overflow_sub-size : goal.overflow_sub-size
overflow_sub-size c = let least = chart-least _ c.requires.0.0 in omega arith

pub put_shorter-requires : goal.put_shorter-requires
put_shorter-requires c =
    let there : not (edge_in (decode c.args.s.now).edges c.args.edge.from c.args.edge.to) ≡ false =
    sym c.lacks_edge.ensures ∙ c.if-lacks_edge.false in
    let ((admits, counts), long) = c.requires in
    let edges = (decode c.args.s.now).edges in
    let L : Laid c.args.s.now c.args.chart = rw counts (laid _ (trailer-passes _ admits)) in
    let below = (at_place edges (admitted-rising _ admits) c.args.edge.from c.args.edge.to (not-false _ there)).0 in (
      (trailer-passes _ admits, counts),
      omega (arith, below, c.place_of-place.ensures.0, edges-length c.args.s.now c.args.chart L),
      omega (arith, chart-most _ admits),
    )

pub returns-in_err-check_front : goal.returns-in_err-check_front
returns-in_err-check_front c =
    let there : not (edge_in (decode c.args.s.now).edges c.args.edge.from c.args.edge.to) ≡ false =
    sym c.lacks_edge.ensures ∙ c.if-lacks_edge.false in
    let s = c.args.s.now in
    let x = c.args.edge.from in
    let y = c.args.edge.to in
    let is = c.put_shorter.ensures x y c.place_of-place.ensures.0 in
    let h = refused-some _ _ (sym c.check_front.ensures ∙ c.in_err-check_front.was) in
    let same : c.from_residual.result ≡ Err c.in_err-check_front.field-0.0 = search rules in
    record { value = same ∙ (refused _ _ [] [] (sym (short-front s x y there c.requires.0.0 _ is) ∙ h)).0; by_index = λ count q. absurd (apart (sym same ∙ q)) }

pub returns : goal.returns
returns c =
    let there : not (edge_in (decode c.args.s.now).edges c.args.edge.from c.args.edge.to) ≡ false =
    sym c.lacks_edge.ensures ∙ c.if-lacks_edge.false in
    let s = c.args.s.now in
    let x = c.args.edge.from in
    let y = c.args.edge.to in
    let is = c.put_shorter.ensures x y c.place_of-place.ensures.0 in
    let h = (passed_none _ _ (sym c.check_front.ensures ∙ c.in_ok-check_front.was)).0 in
    record { value = (passed _ _ [] [] refl (sym (short-front s x y there c.requires.0.0 _ is) ∙ h)).0; by_index = λ count q. is }
