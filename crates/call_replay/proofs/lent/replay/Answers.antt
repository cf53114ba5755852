-- `call_replay::lent::replay` meets its contract: what `run` promises of its team, with its records stored.
-- Assumes nothing.
use lib.ListN.{length}
use Rattle.call_replay.proofs.Left.{Ran, count_small, ran-left}
use Rattle.call_replay.proofs.lent.replay.Goals as goal

pub store-requires : goal.store-requires
store-requires c =
    let r = c.run-team.ensures in
    let ran : Ran c.args.chart.now c.args.region c.args.trace.now (length c.args.threads.now) c.args.out.now c.run-team.result c.run-team.new.out =
    record { answer = r.answer_value; sheet = r.out_after; count = r.counts; threads = r.records } in
    count_small c.args.chart.now c.args.region c.args.trace.now (length c.args.threads.now) c.args.out.now c.run-team.result c.run-team.new.out ran

pub returns : goal.returns
returns c =
    let r = c.run-team.ensures in
    let ran : Ran c.args.chart.now c.args.region c.args.trace.now (length c.args.threads.now) c.args.out.now c.run-team.result c.run-team.new.out =
    record { answer = r.answer_value; sheet = r.out_after; count = r.counts; threads = r.records } in
    let left =
    ran-left c.args.chart.now c.args.region c.args.trace.now c.args.threads.now c.args.out.now c.run-team.result c.run-team.new.out c.answer_of.result
    c.store.new.threads ran c.answer_of.ensures c.store.ensures in
    record { value = left.answer; threads_after = left.records'; out_after = left.sheet; replay_correct = left.correct }
