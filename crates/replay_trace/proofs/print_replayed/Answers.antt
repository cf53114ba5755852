-- `replay_trace::print_replayed` is safe and ends.
-- Assumes nothing.
use Rattle.call_replay.proofs.Calls.{count-few}
use Rattle.replay_trace.proofs.print_replayed.Goals as goal

pub all-requires : goal.all-requires
all-requires g c = rw c.run-team.ensures.counts (count-few _ _ _ _ _)
