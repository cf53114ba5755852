-- `call_phases::writing::phases` meets its contract: rows 1 to 10 and 23, and where none of them applies row 11 and the bytes.
-- Assumes nothing.
use Rattle.std.proofs.Common.{◌≡◌, Err, rules, sym, ◌∙◌}
use mathlib.Core.Path.{ap}
use mathlib.Core.List.{[]}
use Prim.Native.Nat.{ℕ}
use Rattle.chart.specs.Format.{decode}
use Rattle.chart.specs.Reading.{region_of}
use Rattle.chart.specs.declared.format.Chart.{Chart}
use Rattle.chart.proofs.Records.{nodes-length}
use Rattle.theory_paths.specs.Admission.{region_rows}
use Rattle.mark_regions.proofs.Entering.{entered-refused, entered-marked, entered-counts}
use Rattle.output.proofs.Outputs.{refused-before, passed-named}
use Rattle.theory_calls.specs.Phases.{phases_result}
use Rattle.call_phases.proofs.writing.phases.Goals as goal

pub write_phases-requires : goal.write_phases-requires
write_phases-requires c =
    (c.enter.ensures.entry _ c.in_ok-chart.was).accepted.laid.nodes-most

pub returns-in_err-chart : goal.returns-in_err-chart
returns-in_err-chart c =
    let s = c.args.s.now in
    let p = c.args.region in
    let same : c.from_residual.result ≡ Err c.in_err-chart.field-0.0 = search rules in
    let both = refused-before (region_rows s p) [] _ (phases_result (region_of p (decode s))) c.args.out.now _ (entered-refused _ _ _ (sym c.enter.ensures.value ∙ c.in_err-chart.was)) in
    record { value = same ∙ both.0; out_after = both.1 }

pub returns : goal.returns
returns c =
    let s = c.args.s.now in
    let p = c.args.region in
    let E = c.enter.ensures.entry _ c.in_ok-chart.was in
    let q = nodes-length _ _ E.accepted.laid in
    let same = sym c.enter.ensures.value ∙ c.in_ok-chart.was in
    let named = sym (ap (λ (chart : Chart). chart.region) (entered-counts _ _ _ same)) in
    let both = passed-named (region_rows s p) [] (λ (q : ℕ). phases_result (region_of q (decode s))) c.args.out.now named (entered-marked _ _ _ same)
    (c.write_phases.ensures.value _ q) (c.write_phases.ensures.of_masks _ q E.has-starts E.has-ends) in
    record { value = both.0; out_after = both.1 }
