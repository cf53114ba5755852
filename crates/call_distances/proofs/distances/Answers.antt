-- `call_distances::distances` meets its contract: rows 1 to 10 and 23, and where none of them applies row 11 and the bytes.
-- Assumes nothing.
use Rattle.std.proofs.Common.{◌≡◌, Err, rules, sym, ◌∙◌}
use mathlib.Core.Path.{ap}
use mathlib.Core.List.{[]}
use Prim.Native.Nat.{ℕ}
use Rattle.chart.specs.Format.{decode}
use Rattle.chart.specs.Reading.{region_of}
use Rattle.chart.specs.declared.format.Chart.{Chart}
use Rattle.theory_paths.specs.Admission.{region_rows}
use Rattle.mark_regions.proofs.Entering.{entered-refused, entered-marked, entered-counts}
use Rattle.output.proofs.Outputs.{refused-before, passed-named}
use Rattle.theory_calls.specs.Distances.{distances_result}
use Rattle.call_distances.proofs.distances.Goals as goal

pub write_distances-requires : goal.write_distances-requires
write_distances-requires c =
    let E = c.enter.ensures.entry _ c.in_ok-chart.was in
    (E.accepted, E.has-levels)

pub returns-in_err-chart : goal.returns-in_err-chart
returns-in_err-chart c =
    let s = c.args.s.now in
    let p = c.args.region in
    let same : c.from_residual.result ≡ Err c.in_err-chart.field-0.0 = search rules in
    let both = refused-before (region_rows s p) [] _ (distances_result (region_of p (decode s))) c.args.out.now _ (entered-refused _ _ _ (sym c.enter.ensures.value ∙ c.in_err-chart.was)) in
    record { value = same ∙ both.0; out_after = both.1 }

pub returns : goal.returns
returns c =
    let s = c.args.s.now in
    let h = sym c.enter.ensures.value ∙ c.in_ok-chart.was in
    let named = sym (ap (λ (chart : Chart). chart.region) (entered-counts _ _ _ h)) in
    let both = passed-named (region_rows s c.args.region) [] (λ (p : ℕ). distances_result (region_of p (decode s))) c.args.out.now named (entered-marked _ _ _ h)
    c.write_distances.ensures.result_value c.write_distances.ensures.out_after in
    record { value = both.0; out_after = both.1 }
