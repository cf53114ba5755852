-- `call_edges::checking::check_all` meets its contract.
-- Assumes nothing.
use Rattle.std.proofs.Common.{◌≡◌, Err, rules, sym, ◌∙◌}
use Rattle.chart.specs.Checked.{counts_of, checked_by}
use Rattle.theory_paths.specs.AdmissionLaws.{outermost-rows}
use Rattle.mark_regions.proofs.Entering.{entered-refused, entered-marked, entered-counts}
use Rattle.call_edges.proofs.checking.check_all.Goals as goal

pub returns-in_err-marked : goal.returns-in_err-marked
unfolding checked_by
returns-in_err-marked c =
    let h = entered-refused _ _ _ (sym c.enter.ensures.value ∙ c.in_err-marked.was) in
    let same : c.from_residual.result ≡ Err c.in_err-marked.field-0.0 = search rules in
    same ∙ sym (rw (sym (outermost-rows c.args.s.now) ∙ h))

pub returns : goal.returns
unfolding checked_by counts_of
returns c =
    let s = c.args.s.now in
    let h = sym c.enter.ensures.value ∙ c.in_ok-marked.was in
    rw (sym (outermost-rows s) ∙ entered-marked _ _ _ h, sym (entered-counts _ _ _ h))
