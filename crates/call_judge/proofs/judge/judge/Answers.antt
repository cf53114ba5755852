-- `call_judge::judge::judge` meets its contract: rows 1 to 10 and 23, and where none of them applies the list's own and the verdict.
-- Assumes nothing.
use Rattle.std.proofs.Common.{Err, rules, ◌≡◌}
use mathlib.Core.Path.{refl, ap, sym, ◌∙◌}
use Rattle.chart.specs.Checked.{counts_of, read_for}
use Rattle.chart.specs.declared.format.Chart.{Chart}
use Rattle.check_chart.proofs.Outcome.{passed_none, refused-some}
use Rattle.call_judge.proofs.Facts.{refused-judged, listed-judged}
use Rattle.call_judge.proofs.judge.judge.Goals as goal

pub survey-requires : goal.survey-requires
survey-requires c = (refl, refl, refl)

pub judge_claims-requires : goal.judge_claims-requires
judge_claims-requires c =
    let S = c.survey.ensures.survey _ c.in_ok-chart.was in
    (S.accepted, S.marked)

pub returns-in_err-chart : goal.returns-in_err-chart
returns-in_err-chart c =
    let s = c.args.s.now in
    let p = c.args.region in
    let n = refused-some _ (read_for (counts_of s) p) _ (sym c.survey.ensures.value ∙ c.in_err-chart.was) in
    let same : c.from_residual.result ≡ Err c.in_err-chart.field-0.0 = search rules in
    same ∙ refused-judged s p c.args.size c.args.claims.now _ n

pub returns : goal.returns
returns c =
    let s = c.args.s.now in
    let p = c.args.region in
    let n = passed_none _ (read_for (counts_of s) p) _ (sym c.survey.ensures.value ∙ c.in_ok-chart.was) in
    let named = sym (ap (λ (chart : Chart). chart.region) n.1) in
    listed-judged s p c.args.size c.args.claims.now _ n.0 (rw named at c.judge_claims.ensures)
