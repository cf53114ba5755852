-- The invariants and measures of `call_replay::feed::release`.
use Prim.Native.Nat.{◌-◌, ◌≤◌}
use Rattle.answer_steps.specs.declared.tables.TeamTable.{TeamTable}
use Rattle.call_replay.specs.Release.{AllBack}
use Rattle.call_replay.proofs.Releases.{Going}
use Rattle.call_replay.proofs.feed.release.Given as goal

abbrev pub invariant-loop-t : goal.invariant-loop-t
invariant-loop-t l = (l.t ≤ l.m) × ((old : TeamTable) → AllBack old l.initial.team → Going l.t old l.team)
