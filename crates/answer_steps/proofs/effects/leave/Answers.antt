-- `answer_steps::effects::leave` meets its contract.
-- Assumes nothing.
use Rattle.answer_steps.proofs.Stores.{shows_left}
use Rattle.answer_steps.proofs.effects.leave.Goals as goal

pub returns : goal.returns
returns c σ S = rw c.bit.ensures (shows_left S c.args.t c.requires.0 c.args.c c.requires.1 c.args.v c.requires.2)
