-- The invariants and measures of `call_replay::feed::set_all_back`.
use Prim.Native.Nat.{◌-◌}
use Rattle.call_replay.proofs.Releases.{Setting}
use Rattle.call_replay.proofs.feed.set_all_back.Given as goal

abbrev pub invariant-loop-rest : goal.invariant-loop-rest
invariant-loop-rest l = Setting l.initial.team l.rest l.team

abbrev pub decreases-loop-rest : goal.decreases-loop-rest
decreases-loop-rest l = l.rest
