-- `call_replay::run::replay_chart` meets its contract.
-- Assumes nothing.
use Rattle.std.specs.Prelude.{Ok}
use mathlib.Core.Path.{ap, ◌∙◌}
use Rattle.chart.proofs.Records.{nodes-length}
use Rattle.call_replay.proofs.Results.{sheet-content}
use Rattle.call_replay.proofs.run.replay_chart.Goals as goal

pub returns : goal.returns
returns c =
    let answer = c.replay_rows-answer.ensures.result_value in
    let left = c.replay_rows-answer.ensures.fact in
    let kept = c.replay_rows-answer.ensures.fact_2 in
    let made = c.team_of.ensures in
    record { fact = (made.2 ∙ ap Ok answer, made.1, made.0 _ left.state); out_after = sheet-content (nodes-length _ c.args.chart c.requires.0.laid) c.requires.3 kept left.marks }
