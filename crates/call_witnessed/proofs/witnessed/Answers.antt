-- `call_witnessed::witnessed` meets its contract: rows 1 to 10 and 23, and where none of them applies rows 13 and 22 and the answer.
-- Assumes nothing.
use Rattle.std.proofs.Common.{Err, rules, ◌≡◌}
use mathlib.Core.Path.{sym, ◌∙◌, ap}
use Rattle.chart.specs.declared.format.Chart.{Chart}
use Rattle.mark_regions.proofs.Entering.{entered-refused, entered-marked, entered-counts}
use Rattle.call_witnessed.proofs.Told.{told-refused, told-passed}
use Rattle.call_witnessed.proofs.witnessed.Goals as goal

pub tell-requires : goal.tell-requires
tell-requires c = (c.enter.ensures.entry _ c.in_ok-chart.was).accepted

pub returns-in_err-chart : goal.returns-in_err-chart
returns-in_err-chart c =
    let same : c.from_residual.result ≡ Err c.in_err-chart.field-0.0 = search rules in
    same ∙ told-refused c.args.s.now c.args.region c.args.size c.args.trace.now c.args.a c.args.b
    (entered-refused _ _ _ (sym c.enter.ensures.value ∙ c.in_err-chart.was))

pub returns : goal.returns
returns c =
    let h = sym c.enter.ensures.value ∙ c.in_ok-chart.was in
    told-passed c.args.s.now c.args.region c.args.size c.args.trace.now c.args.a c.args.b
    (sym (ap (λ (chart : Chart). chart.region) (entered-counts _ _ _ h))) (entered-marked _ _ _ h) c.tell.ensures
