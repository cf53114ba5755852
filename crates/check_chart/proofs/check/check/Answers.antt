-- `check_chart::check::check` meets its contract.
-- Assumes nothing.
use Rattle.std.proofs.Common.{◌≡◌, Err, rules, sym, subst, ◌∙◌}
use Rattle.lists.specs.Truth.{bad}
use Rattle.chart.specs.Checked.{Laid, counts_of, checked_by, checked}
use Rattle.chart.specs.Refusal.{trailer_rows, table_rows, chart_rows}
use Rattle.chart.specs.Format.{decode}
use Rattle.chart.proofs.Accepted.{laid}
use Rattle.chart.proofs.Rows.{first-decides, second-decides}
use Rattle.check_chart.proofs.Outcome.{passed_none, refused-some}
use Rattle.check_chart.proofs.check.check.Goals as goal

pub check_tables-requires : goal.check_tables-requires
check_tables-requires c =
    let s = c.args.s.now in
    let p = passed_none _ (counts_of s) _ (sym c.read_trailer.ensures ∙ c.in_ok-chart.was) in
    subst (Laid s) p.1 (laid s p.0)

pub returns-in_err-chart : goal.returns-in_err-chart
unfolding checked chart_rows checked_by
returns-in_err-chart c =
    let s = c.args.s.now in
    let n = refused-some _ (counts_of s) _ (sym c.read_trailer.ensures ∙ c.in_err-chart.was) in
    let same : c.from_residual.result ≡ Err c.in_err-chart.field-0.0 = search rules in
    record { value = same ∙ sym (rw (first-decides (trailer_rows s) (table_rows (decode s)) _ n)); both_framed = λ chart q. absurd (bad (cc)) }

pub returns : goal.returns
unfolding checked chart_rows
returns c =
    let s = c.args.s.now in
    let p = passed_none _ (counts_of s) _ (sym c.read_trailer.ensures ∙ c.in_ok-chart.was) in
    record { value = c.check_tables.ensures.value ∙ sym (rw (second-decides (trailer_rows s) (table_rows (decode s)) p.0, p.1)); both_framed = c.check_tables.ensures.both_framed }
