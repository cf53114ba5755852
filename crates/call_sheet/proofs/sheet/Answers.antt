-- `call_sheet::sheet` meets its contract: rows 1 to 10 and 23, and where none of them applies rows 11 and 21 and the bytes.
-- Assumes nothing.
use Rattle.std.proofs.Common.{Err, rules, ◌≡◌}
use mathlib.Core.Path.{refl, ap, sym, ◌∙◌}
use Prim.Native.Nat.{ℕ}
use Rattle.chart.specs.Format.{decode}
use Rattle.chart.specs.Reading.{region_of}
use Rattle.chart.specs.Checked.{counts_of, read_for}
use Rattle.chart.specs.declared.format.Chart.{Chart}
use Rattle.check_chart.proofs.Outcome.{passed_none, refused-some}
use Rattle.theory_paths.specs.Admission.{region_rows}
use Rattle.theory_answers.specs.Answer.{answer_for}
use Rattle.theory_answers.specs.Size.{size_rows}
use Rattle.theory_answers.specs.Sheet.{sheet}
use Rattle.output.proofs.Outputs.{refused-before, passed-named}
use Rattle.theory_calls.specs.Sheet.{sheet_result}
use Rattle.call_sheet.proofs.sheet.Goals as goal

pub survey-requires : goal.survey-requires
survey-requires c = (refl, refl, refl)

pub write_sheet-requires : goal.write_sheet-requires
write_sheet-requires c =
    let S = c.survey.ensures.survey _ c.in_ok-chart.was in
    (S.accepted, S.marked)

pub returns-in_err-chart : goal.returns-in_err-chart
returns-in_err-chart c =
    let s = c.args.s.now in
    let p = c.args.region in
    let n = refused-some _ (read_for (counts_of s) p) _ (sym c.survey.ensures.value ∙ c.in_err-chart.was) in
    let both = refused-before (region_rows s p) (size_rows c.args.size) _ (sheet_result s p c.args.size) c.args.out.now _ n in
    let same : c.from_residual.result ≡ Err c.in_err-chart.field-0.0 = search rules in
    record { value = same ∙ both.0; out_after = both.1 }

pub returns : goal.returns
returns c =
    let s = c.args.s.now in
    let p = c.args.region in
    let n = passed_none _ (read_for (counts_of s) p) _ (sym c.survey.ensures.value ∙ c.in_ok-chart.was) in
    let named = sym (ap (λ (chart : Chart). chart.region) n.1) in
    let both = passed-named (region_rows s p) (size_rows c.args.size) (λ (q : ℕ). let R = region_of q (decode s) in sheet R (answer_for R c.args.size)) c.args.out.now named n.0
    c.write_sheet.ensures.result_value c.write_sheet.ensures.out_after in
    record { value = both.0; out_after = both.1 }
