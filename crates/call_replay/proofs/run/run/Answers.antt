-- `call_replay::run::run` meets its contract.
-- Assumes nothing.
use mathlib.Core.Path.{◌≡◌, sym, ◌∙◌, ap, subst}
use mathlib.Core.Option.{none}
use Prim.Native.Nat.{ℕ}
use lib.ListN.{length}
use Rattle.chart.specs.Refusal.{first_of}
use Rattle.chart.specs.declared.format.Chart.{Chart}
use Rattle.theory_paths.specs.Admission.{region_rows}
use Rattle.mark_regions.proofs.Entering.{entered-refused, entered-marked, entered-counts}
use Rattle.call_replay.proofs.Calls.{region-refused, refused-answer, refused-sheet, refused-count, refused_none, left-length}
use Rattle.call_replay.proofs.run.run.Goals as goal

pub run_chart-requires : goal.run_chart-requires
run_chart-requires c =
    let given = c.in-Ok.is in
    let h = sym c.enter.ensures.value ∙ given in
    let named = ap (λ (k : Chart). k.region) (entered-counts _ _ _ h) in
    (subst (λ (q : ℕ). first_of (region_rows c.args.s.now q) ≡ none) named (entered-marked _ _ _ h), (c.enter.ensures.entry _ given).accepted)

pub returns-in-Err : goal.returns-in-Err
returns-in-Err c =
    let h = region-refused c.args.s.now c.args.region c.args.trace.now c.args.m c.args.out.now (entered-refused _ _ _ (sym c.enter.ensures.value ∙ c.in-Err.is)) in
    let r = c.refused.ensures in
    record { answer_value = r.0 ∙ refused-answer c.args.s.now c.args.region c.args.trace.now c.args.m c.args.out.now h; out_after = refused-sheet c.args.s.now c.args.region c.args.trace.now c.args.m c.args.out.now h; counts = r.1 ∙ refused-count c.args.s.now c.args.region c.args.trace.now c.args.m c.args.out.now h; records = λ g. absurd (refused_none c.args.s.now c.args.region c.args.trace.now c.args.m c.args.out.now h g) }

pub shape_of-out : goal.shape_of-out
shape_of-out c = ap length c.run_chart.ensures.out_after ∙ left-length c.args.s.now _ c.args.trace.now c.args.m c.args.out.now

pub returns-in-Ok : goal.returns-in-Ok
returns-in-Ok c =
    let h = sym c.enter.ensures.value ∙ c.in-Ok.is in
    let named = ap (λ (k : Chart). k.region) (entered-counts _ _ _ h) in
    let r = c.run_chart.ensures in
    record { answer_value = rw named r.answer_value; out_after = rw named r.out_after; counts = rw named r.counts; records = rw named r.records }
