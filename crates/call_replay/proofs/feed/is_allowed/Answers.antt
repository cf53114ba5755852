-- `call_replay::feed::is_allowed` meets its contract.
-- Assumes nothing.
use mathlib.Core.Path.{ap, sym}
use Rattle.theory_traces.specs.Decide.{allowed}
use Rattle.call_replay.proofs.feed.is_allowed.Goals as goal

pub returns-in-None : goal.returns-in-None
unfolding allowed
returns-in-None c = ap allowed (sym c.in-None.is)

pub returns-in-Moves : goal.returns-in-Moves
unfolding allowed
returns-in-Moves c = ap allowed (sym c.in-Moves.is)

pub returns-in-Leaves : goal.returns-in-Leaves
unfolding allowed
returns-in-Leaves c = ap allowed (sym c.in-Leaves.is)

pub returns-in-Takes : goal.returns-in-Takes
unfolding allowed
returns-in-Takes c = ap allowed (sym c.in-Takes.is)

pub returns-in-TakesNext : goal.returns-in-TakesNext
unfolding allowed
returns-in-TakesNext c = ap allowed (sym c.in-TakesNext.is)
