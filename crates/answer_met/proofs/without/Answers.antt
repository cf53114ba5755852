-- `answer_met::without` meets its contract.
-- Assumes nothing.
use Rattle.answer_nodes.proofs.BitTests.{has-without}
use Rattle.answer_met.proofs.without.Goals as goal

pub returns : goal.returns
returns c = λ j. has-without c.args.set c.args.other j
