-- `answer_steps::effects::move_to` meets its contract.
-- Assumes nothing.
use Rattle.answer_steps.proofs.Stores.{shows-moved}
use Rattle.answer_steps.proofs.effects.move_to.Goals as goal

pub returns : goal.returns
returns c σ S = shows-moved S c.args.t c.requires.0 c.args.v c.requires.1
