-- `call_admit::admit::admit` meets its contract.
-- Assumes nothing.
use Rattle.std.proofs.Common.{◌≡◌, Err, rules, sym, ◌∙◌, arith}
use mathlib.Core.Path.{ap}
use lib.ListN.{length}
use Rattle.chart.specs.Region.{Region}
use Rattle.chart.specs.Checked.{reading}
use Rattle.chart.specs.declared.format.Chart.{Chart}
use Rattle.chart.proofs.Records.{nodes-length}
use Rattle.theory_paths.specs.AdmissionLaws.{outermost-rows}
use Rattle.theory_paths.specs.Phases.{barriers, phase_count}
use Rattle.mark_tables.proofs.Loading.{barriers-most}
use Rattle.mark_regions.proofs.Entering.{entered-refused, entered-marked, entered-counts}
use Rattle.theory_calls.specs.Admission.{region_counts, admission_by, admitted}
use Rattle.call_admit.proofs.admit.admit.Goals as goal

pub count-phases-requires : goal.count-phases-requires
count-phases-requires c =
    let E = c.enter.ensures.entry _ c.in_ok-chart.was in
    (E.accepted.laid.nodes-most, omega (arith, E.count, barriers-most _ _ E.accepted))

pub returns-in_err-chart : goal.returns-in_err-chart
unfolding admitted admission_by
returns-in_err-chart c =
    let s = c.args.s.now in
    let h = entered-refused _ _ _ (sym c.enter.ensures.value ∙ c.in_err-chart.was) in
    let same : c.from_residual.result ≡ Err c.in_err-chart.field-0.0 = search rules in
    same ∙ sym (rw (sym (outermost-rows s) ∙ h))

pub returns : goal.returns
unfolding admitted admission_by region_counts
returns c =
    let s = c.args.s.now in
    let E = c.enter.ensures.entry _ c.in_ok-chart.was in
    let h = sym c.enter.ensures.value ∙ c.in_ok-chart.was in
    let nodes = nodes-length _ _ E.accepted.laid in
    let whole = ap (λ (c : Chart). reading s c) (sym (entered-counts _ _ _ h)) in
    let barriers = E.count ∙ ap (λ (R : Region). length (barriers R)) whole in
    let phases = c.count-phases.ensures _ (sym nodes) E.count E.has-starts E.has-ends ∙ ap phase_count whole in
    rw (sym (outermost-rows s) ∙ entered-marked _ _ _ h, barriers, phases, ← nodes)
