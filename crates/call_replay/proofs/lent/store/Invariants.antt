-- The invariant of `call_replay::lent::store`: the records passed are stored.
use Rattle.std.proofs.Common.{◌-◌, ◌≡◌, ◌≤◌}
use Rattle.call_replay.specs.Stored.{stored}
use Rattle.call_replay.proofs.lent.store.Given as goal

abbrev pub invariant-loop-t : goal.invariant-loop-t
invariant-loop-t l = (l.t ≤ l.n) × (l.threads ≡ stored l.team.threads l.t l.fn.threads)
