-- `call_replay::start::set_team` meets its contract.
-- Assumes nothing.
use mathlib.Core.Path.{sym}
use native.Mathlib.Omega.{arith}
use Rattle.call_replay.proofs.Begun.{shows-begun}
use Rattle.call_replay.proofs.start.set_team.Goals as goal

pub returns-clause-shows : goal.returns-clause-shows
returns-clause-shows c R T = shows-begun R _ 0 (sym T.start) (omega (arith, T.start, T.starts))
