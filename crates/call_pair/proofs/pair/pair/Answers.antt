-- `call_pair::pair::pair` meets its contract: rows 1 to 10 and 23, and where none of them applies rows 13 and 21 and the answer.
-- Assumes nothing.
use Rattle.std.proofs.Common.{Err, rules, ◌≡◌}
use mathlib.Core.Path.{refl, ap, sym, ◌∙◌}
use mathlib.Core.List.{◌∷◌}
use Rattle.chart.specs.Format.{decode}
use Rattle.chart.specs.Reading.{region_of}
use Rattle.chart.specs.Checked.{counts_of, read_for}
use Rattle.chart.specs.declared.format.Chart.{Chart}
use Rattle.chart.proofs.Rows.{first-decides}
use Rattle.check_chart.proofs.Outcome.{passed_none, refused-some}
use Rattle.theory_paths.specs.Admission.{region_rows}
use Rattle.theory_answers.specs.Size.{size_rows}
use Rattle.theory_calls.specs.Pair.{numbers_row, pair_rows_for, answered, pair_answered_for}
use Rattle.call_pair.proofs.Passed.{pair-passed}
use Rattle.call_pair.proofs.pair.pair.Goals as goal

pub survey-requires : goal.survey-requires
survey-requires c = (refl, refl, refl)

pub answer_pair-requires : goal.answer_pair-requires
answer_pair-requires c =
    let S = c.survey.ensures.survey _ c.in_ok-chart.was in
    (S.accepted, S.marked)

pub returns-in_err-chart : goal.returns-in_err-chart
unfolding pair_answered_for pair_rows_for answered
returns-in_err-chart c =
    let s = c.args.s.now in
    let p = c.args.region in
    let n = refused-some _ (read_for (counts_of s) p) _ (sym c.survey.ensures.value ∙ c.in_err-chart.was) in
    let same : c.from_residual.result ≡ Err c.in_err-chart.field-0.0 = search rules in
    same ∙ sym (rw (first-decides (region_rows s p) (numbers_row (region_of p (decode s)) c.args.a c.args.b ∷ size_rows c.args.size) _ n))

pub returns : goal.returns
returns c =
    let s = c.args.s.now in
    let p = c.args.region in
    let n = passed_none _ (read_for (counts_of s) p) _ (sym c.survey.ensures.value ∙ c.in_ok-chart.was) in
    let named = sym (ap (λ (chart : Chart). chart.region) n.1) in
    pair-passed s p _ named n.0 c.args.size c.args.a c.args.b c.answer_pair.ensures
