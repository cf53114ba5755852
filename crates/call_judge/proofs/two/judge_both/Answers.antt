-- `call_judge::two::judge_both` meets its contract: rows 1 to 10 and 23 for both lists, and where none of them applies each list's own and its verdict.
-- Assumes nothing.
use mathlib.Core.Path.{ap, sym, ◌∙◌}
use Rattle.chart.specs.Checked.{counts_of, read_for}
use Rattle.chart.specs.declared.format.Chart.{Chart}
use Rattle.check_chart.proofs.Outcome.{passed_none, refused-some}
use Rattle.theory_answers.specs.declared.Size.TheVariants.{Any}
use Rattle.call_judge.proofs.Facts.{refused-judged, listed-judged}
use Rattle.call_judge.proofs.two.judge_both.Goals as goal

pub judge_claims-first-requires : goal.judge_claims-first-requires
judge_claims-first-requires c =
    let S = c.survey.ensures.survey _ c.in-Ok.is in
    (S.accepted, S.marked)

pub judge_claims-second-requires : goal.judge_claims-second-requires
judge_claims-second-requires c =
    let S = c.survey.ensures.survey _ c.in-Ok.is in
    (S.accepted, S.marked)

pub returns-in-Err : goal.returns-in-Err
returns-in-Err c =
    let s = c.args.s.now in
    let p = c.args.region in
    let n = refused-some _ (read_for (counts_of s) p) _ (sym c.survey.ensures.value ∙ c.in-Err.is) in
    (refused-judged s p Any _ _ n, refused-judged s p Any _ _ n)

pub returns-in-Ok : goal.returns-in-Ok
returns-in-Ok c =
    let s = c.args.s.now in
    let p = c.args.region in
    let n = passed_none _ (read_for (counts_of s) p) _ (sym c.survey.ensures.value ∙ c.in-Ok.is) in
    let named = sym (ap (λ (chart : Chart). chart.region) n.1) in
    (listed-judged s p Any _ _ n.0 (rw named at c.judge_claims-first.ensures), listed-judged s p Any _ _ n.0 (rw named at c.judge_claims-second.ensures))
