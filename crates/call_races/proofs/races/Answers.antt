-- `call_races::races` meets its contract: rows 1 to 10 and 23, and where none of them applies rows 20 and 11 and the bytes.
-- Assumes nothing.
use Rattle.std.proofs.Common.{Err, rules, ◌≡◌}
use mathlib.Core.Path.{refl, ap, sym, ◌∙◌}
use Rattle.chart.specs.Checked.{counts_of, read_for}
use Rattle.chart.specs.declared.format.Chart.{Chart}
use Rattle.check_chart.proofs.Outcome.{passed_none, refused-some}
use Rattle.call_races.proofs.Outcome.{chart-refused, chart-passed}
use Rattle.call_races.proofs.races.Goals as goal

-- where the function was called
pub survey-requires : goal.survey-requires
survey-requires c = (refl, refl, refl)

pub write_races-requires : goal.write_races-requires
write_races-requires c =
    let S = c.survey.ensures.survey _ c.in_ok-chart.was in
    (S.accepted, (_, S.marked))

pub returns-in_err-chart : goal.returns-in_err-chart
returns-in_err-chart c =
    let s = c.args.s.now in
    let p = c.args.region in
    let both = chart-refused s p c.args.accesses.now c.args.out.now _
    (refused-some _ (read_for (counts_of s) p) _ (sym c.survey.ensures.value ∙ c.in_err-chart.was)) in
    let same : c.from_residual.result ≡ Err c.in_err-chart.field-0.0 = search rules in
    record { value = same ∙ both.0; out_after = both.1 }

pub returns : goal.returns
returns c =
    let s = c.args.s.now in
    let p = c.args.region in
    let n = passed_none _ (read_for (counts_of s) p) _ (sym c.survey.ensures.value ∙ c.in_ok-chart.was) in
    let both = chart-passed s p c.args.accesses.now c.args.out.now (sym (ap (λ (chart : Chart). chart.region) n.1)) n.0 c.write_races.ensures.result_value c.write_races.ensures.out_after in
    record { value = both.0; out_after = both.1 }
