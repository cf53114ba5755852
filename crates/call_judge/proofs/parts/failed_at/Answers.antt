-- `call_judge::parts::failed_at` meets its contract.
-- Assumes nothing.
use Rattle.call_judge.specs.Two.{failed_at}
use Rattle.call_judge.proofs.parts.failed_at.Goals as goal

pub returns-in-Ok : goal.returns-in-Ok
unfolding failed_at
returns-in-Ok c = rw c.in-Ok.is

pub returns-in-Err : goal.returns-in-Err
unfolding failed_at
returns-in-Err c = rw c.in-Err.is
