-- The invariants and measures of `call_replay::feed::set_back`.
use Rattle.call_replay.specs.Release.{SetBack}
use Rattle.call_replay.proofs.feed.set_back.Given as goal

abbrev pub invariant-loop-thread : goal.invariant-loop-thread
invariant-loop-thread l =
    let team = l.fn.team in
    SetBack l.thread-index l.c team (record { threads = l.thread-items; chosen = team.chosen; pending = team.pending; left = team.left })
