-- `answer_steps::effects::take_section` meets its contract.
-- Assumes nothing.
use Rattle.answer_steps.proofs.Stores.{shows-took}
use Rattle.answer_steps.proofs.effects.take_section.Goals as goal

pub returns : goal.returns
returns c σ S = rw (c.bit.ensures, c.bit-2.ensures) (shows-took S c.args.t c.requires.0 c.args.c c.requires.1 c.args.x c.requires.2)
