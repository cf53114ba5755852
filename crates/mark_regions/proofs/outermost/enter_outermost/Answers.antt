-- `mark_regions::outermost::enter_outermost` meets its contract: rows 1 to 9, and where none of them applies row 10.
-- Assumes nothing.
use Rattle.std.proofs.Common.{◌≡◌, Err, rules, sym, ◌∙◌}
use Rattle.lists.specs.Truth.{bad}
use Rattle.mark_tables.proofs.Accepted.{accepted}
use Rattle.mark_tables.proofs.Rows.{refused-before}
use Rattle.mark_regions.specs.Entered.{entered}
use Rattle.mark_regions.proofs.Entering.{read_whole}
use Rattle.mark_regions.proofs.outermost.enter_outermost.Goals as goal

pub enter_region-requires : goal.enter_region-requires
enter_region-requires c =
    let h = sym c.check.ensures.value ∙ c.in_ok-chart.was in
    record { accepted = (accepted _ _ h, λ _. h); starts_value = c.requires }

pub returns-in_err-chart : goal.returns-in_err-chart
unfolding entered
returns-in_err-chart c =
    let e = refused-before c.args.s.now _ (sym c.check.ensures.value ∙ c.in_err-chart.was) in
    let same : c.from_residual.result ≡ Err c.in_err-chart.field-0.0 = search rules in
    record { value = same ∙ sym (rw e); entry = λ m q. absurd (bad (cc)) }

pub returns : goal.returns
returns c =
    record { value = c.enter_region.ensures.value.0 (read_whole _ _ (sym c.check.ensures.value ∙ c.in_ok-chart.was)); entry = c.enter_region.ensures.entry }
