-- `answer_masks::survey` meets its contract: rows 1 to 9 come first, and row 23 never applies to the outermost region.
-- Assumes nothing.
use Rattle.std.proofs.Common.{Err, rules, ◌≡◌}
use mathlib.Core.Path.{sym, ◌∙◌}
use Rattle.lists.specs.Truth.{bad}
use Rattle.chart.specs.Checked.{counts_of, checked_by}
use Rattle.theory_paths.specs.AdmissionLaws.{outermost-rows}
use Rattle.mark_tables.proofs.Accepted.{accepted}
use Rattle.mark_tables.proofs.Rows.{refused-before}
use Rattle.mark_regions.proofs.Entering.{read_whole, entered-refused}
use Rattle.mark_regions.proofs.Naming.{refused-first}
use Rattle.answer_masks.proofs.survey.Goals as goal

pub survey_region-requires : goal.survey_region-requires
survey_region-requires c =
    let h = sym c.check.ensures.value ∙ c.in_ok-chart.was in
    record { accepted = (accepted _ _ h, λ _. h, c.requires); both_framed = c.check.ensures.both_framed _ c.in_ok-chart.was }

pub returns-then-region-eq-OUTERMOST : goal.returns-then-region-eq-OUTERMOST
unfolding counts_of
returns-then-region-eq-OUTERMOST c =
    let h = sym c.check.ensures.value ∙ c.in_ok-chart.was in
    record { value = rw (c.if-region-eq-OUTERMOST.true, outermost-rows c.args.s.now) (c.survey_region.ensures.value.0 (read_whole _ _ h)); survey = c.survey_region.ensures.survey }

pub survey_inner-requires : goal.survey_inner-requires
survey_inner-requires c =
    record { s_value = (sym c.check.ensures.value ∙ c.in_ok-chart.was, c.if-region-eq-OUTERMOST.false, c.requires); both_framed = c.check.ensures.both_framed _ c.in_ok-chart.was }

pub returns-in_err-chart : goal.returns-in_err-chart
unfolding checked_by
returns-in_err-chart c =
    let n = refused-before c.args.s.now _ (sym c.check.ensures.value ∙ c.in_err-chart.was) in
    let same : c.from_residual.result ≡ Err c.in_err-chart.field-0.0 = search rules in
    record { value = same ∙ sym (rw (entered-refused _ _ _ (sym (refused-first c.args.s.now c.args.region _ n)))); survey = λ chart q. absurd (bad (cc)) }

pub returns : goal.returns
returns c = record { value = c.survey_inner.ensures.value; survey = c.survey_inner.ensures.survey }
