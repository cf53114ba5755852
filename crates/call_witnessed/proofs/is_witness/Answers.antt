-- `call_witnessed::is_witness` meets its contract.
-- Assumes nothing.
use Rattle.std.specs.Prelude.{Ok}
use mathlib.Core.Path.{◌≡◌, ap}
use Rattle.theory_traces.specs.declared.Replayed.{Replayed}
use mathlib.Core.Bool.{false}
use native.Mathlib.Omega.{arith}
use Rattle.chart.specs.Checked.{reading}
use Rattle.chart.proofs.Records.{nodes-length}
use Rattle.theory_calls.specs.Witness.{is_ended, is_witness}
use Rattle.call_witnessed.proofs.Told.{row-tells, not-ended}
use Rattle.call_witnessed.proofs.is_witness.Goals as goal

pub returns-in-Finished : goal.returns-in-Finished
returns-in-Finished c =
    let n = nodes-length _ c.args.chart c.requires.0.laid in
    row-tells (reading c.args.s.now c.args.chart) c.args.size c.args.trace.now c.args.a c.args.b c.replay_rows.ensures.result_value
    (ap (λ (r : Replayed). is_ended (Ok r)) c.in-Finished.is) c.replay_rows.ensures.fact.marks (omega (arith, n, c.requires.3))

pub returns-in-Unfinished : goal.returns-in-Unfinished
returns-in-Unfinished c =
    let other : is_ended (Ok c.replay_rows.result) ≡ false
    → false ≡ is_witness (reading c.args.s.now c.args.chart) c.args.size c.args.trace.now c.args.a c.args.b =
    λ h. not-ended (reading c.args.s.now c.args.chart) c.args.size c.args.trace.now c.args.a c.args.b c.replay_rows.ensures.result_value h in
    other (ap (λ (r : Replayed). is_ended (Ok r)) c.in-Unfinished.is)

pub returns-in-Forbidden : goal.returns-in-Forbidden
returns-in-Forbidden c =
    let other : is_ended (Ok c.replay_rows.result) ≡ false
    → false ≡ is_witness (reading c.args.s.now c.args.chart) c.args.size c.args.trace.now c.args.a c.args.b =
    λ h. not-ended (reading c.args.s.now c.args.chart) c.args.size c.args.trace.now c.args.a c.args.b c.replay_rows.ensures.result_value h in
    other (ap (λ (r : Replayed). is_ended (Ok r)) c.in-Forbidden.is)
