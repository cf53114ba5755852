-- `call_replay::run::run_chart` meets its contract.
-- Assumes nothing.
use mathlib.Core.Path.{sym, ◌∙◌, ap, subst}
use Prim.Native.Nat.{ℕ, ◌*◌, ◌≤◌, ◌<◌}
use native.Mathlib.Omega.{arith}
use lib.ListN.{length}
use Rattle.lists.specs.Rows.{square}
use Rattle.chart.proofs.Records.{nodes-length}
use Rattle.theory_traces.specs.Call.{replay_answer, sheet_left, answered}
use Rattle.theory_traces.proofs.CorrectLaws.{passed-team}
use Rattle.output.specs.Output.{left_by, content}
use Rattle.call_replay.specs.Team.{count_by}
use Rattle.call_replay.proofs.Results.{content-length}
use Rattle.call_replay.proofs.Calls.{trace-refused, room-refused, none-refused, refused-answer, refused-sheet, refused-count, refused_none}
use Rattle.call_replay.proofs.run.run_chart.Goals as goal

pub returns-then-bad_trace : goal.returns-then-bad_trace
returns-then-bad_trace c =
    let (passes, A) = c.requires in
    let h = trace-refused c.args.s.now c.args.chart.region c.args.trace.now c.args.m c.args.out.now passes (sym c.bad_trace.ensures ∙ c.if-bad_trace.true) in
    let r = c.refused.ensures in
    record { answer_value = r.0 ∙ refused-answer c.args.s.now c.args.chart.region c.args.trace.now c.args.m c.args.out.now h; out_after = refused-sheet c.args.s.now c.args.chart.region c.args.trace.now c.args.m c.args.out.now h; counts = r.1 ∙ refused-count c.args.s.now c.args.chart.region c.args.trace.now c.args.m c.args.out.now h; records = λ g. absurd (refused_none c.args.s.now c.args.chart.region c.args.trace.now c.args.m c.args.out.now h g) }

pub overflow_mul-n : goal.overflow_mul-n
overflow_mul-n c = omega (arith, square c.requires.1.laid.nodes-most)

pub returns-then-out-n : goal.returns-then-out-n
returns-then-out-n c =
    let (passes, A) = c.requires in
    let n = nodes-length _ c.args.chart A.laid in
    let short = subst (λ (k : ℕ). length c.args.out.now < k * k) (sym n) c.if-out-n.true in
    let h = room-refused c.args.s.now c.args.chart.region c.args.trace.now c.args.m c.args.out.now passes (sym c.bad_trace.ensures ∙ c.if-bad_trace.false) short in
    let r = c.refused-then-out-n.ensures in
    record { answer_value = r.0 ∙ refused-answer c.args.s.now c.args.chart.region c.args.trace.now c.args.m c.args.out.now h; out_after = refused-sheet c.args.s.now c.args.chart.region c.args.trace.now c.args.m c.args.out.now h; counts = r.1 ∙ refused-count c.args.s.now c.args.chart.region c.args.trace.now c.args.m c.args.out.now h; records = λ g. absurd (refused_none c.args.s.now c.args.chart.region c.args.trace.now c.args.m c.args.out.now h g) }

pub replay_chart-requires : goal.replay_chart-requires
replay_chart-requires c =
    let (passes, A) = c.requires in
    let n = nodes-length _ c.args.chart A.laid in
    let room = subst (λ (k : ℕ). k * k ≤ length c.args.out.now) (sym n) c.if-out-n.false in
    let h = none-refused c.args.s.now c.args.chart.region c.args.trace.now c.args.m c.args.out.now passes (sym c.bad_trace.ensures ∙ c.if-bad_trace.false) room in
    let (least, (most, rest)) = passed-team c.args.s.now c.args.chart.region c.args.trace.now c.args.m c.args.out.now h in
    (A, least, most, c.if-out-n.false)

pub shape_of-out : goal.shape_of-out
shape_of-out c =
    let (passes, A) = c.requires in
    let n = nodes-length _ c.args.chart A.laid in
    ap length c.replay_chart.ensures.out_after ∙ content-length _ _ c.args.out.now (subst (λ (k : ℕ). k * k ≤ length c.args.out.now) (sym n) c.if-out-n.false)

pub returns : goal.returns
unfolding replay_answer sheet_left answered left_by content count_by
returns c =
    let (passes, A) = c.requires in
    let n = nodes-length _ c.args.chart A.laid in
    let room = subst (λ (k : ℕ). k * k ≤ length c.args.out.now) (sym n) c.if-out-n.false in
    let h = none-refused c.args.s.now c.args.chart.region c.args.trace.now c.args.m c.args.out.now passes (sym c.bad_trace.ensures ∙ c.if-bad_trace.false) room in
    let r = c.replay_chart.ensures.fact in
    rw h (record { answer_value = r.0; out_after = c.replay_chart.ensures.out_after; counts = r.1; records = λ g. r.2 })
