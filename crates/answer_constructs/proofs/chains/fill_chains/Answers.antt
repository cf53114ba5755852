-- `answer_constructs::chains::fill_chains` meets its contract. The loop's invariant: the masks of the constructs passed are there.
-- Assumes nothing.
use native.Mathlib.Omega.{arith}
use Rattle.answer_constructs.proofs.Noted.{known-none}
use Rattle.answer_constructs.proofs.chains.fill_chains.Goals as goal

pub loop-c-init : goal.loop-c-init
loop-c-init c = (omega arith, known-none _, record { long = c.requires.3; is_held = λ c l. absurd (omega arith) })
