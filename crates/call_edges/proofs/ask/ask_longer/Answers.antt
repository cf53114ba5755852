-- `call_edges::ask::ask_longer` meets its contract.
-- Assumes nothing.
use Rattle.std.proofs.Common.{◌≡◌, Err, rules, sym, ◌∙◌}
use native.Mathlib.Omega.{arith}
use Rattle.chart.proofs.Accepted.{laid}
use Rattle.theory_edits.proofs.SpliceLaws.{inserted-length}
use Rattle.theory_edits.proofs.EditLaws.{admitted-laid}
use Rattle.call_edges.proofs.CheckLaws.{passed_none, refused-some, trailer-passes, chart-most, within}
use Rattle.call_edges.proofs.AskLaws.{longer-refused, longer-admitted}
use Rattle.call_edges.proofs.ask.ask_longer.Goals as goal

pub place_of-place-requires : goal.place_of-place-requires
place_of-place-requires c = let ((admits, counts), long) = c.requires in rw counts (laid _ (trailer-passes _ admits))

pub put_longer-requires : goal.put_longer-requires
put_longer-requires c =
    let ((admits, counts), long) = c.requires in
    ((trailer-passes _ admits, counts), c.place_of-place.ensures.0, omega (arith, chart-most _ admits))

pub returns-in_err-check_front : goal.returns-in_err-check_front
returns-in_err-check_front c =
    let is = c.put_longer.ensures in
    let long = inserted-length _ (admitted-laid _ c.requires.0.0) c.args.edge.from c.args.edge.to in
    let h = refused-some _ _ (sym c.check_front.ensures ∙ c.in_err-check_front.was) in
    let same : c.from_residual.result ≡ Err c.in_err-check_front.field-0.0 = search rules in
    record { value = same ∙ longer-refused c.args.s.now c.args.edge.from c.args.edge.to _ (sym (within _ _ is long) ∙ h); longer_after = is }

pub returns : goal.returns
returns c =
    let is = c.put_longer.ensures in
    let long = inserted-length _ (admitted-laid _ c.requires.0.0) c.args.edge.from c.args.edge.to in
    let h = (passed_none _ _ (sym c.check_front.ensures ∙ c.in_ok-check_front.was)).0 in
    record { value = rw c.place_of-place.ensures.0 (longer-admitted c.args.s.now c.args.edge.from c.args.edge.to (sym (within _ _ is long) ∙ h)); longer_after = is }
