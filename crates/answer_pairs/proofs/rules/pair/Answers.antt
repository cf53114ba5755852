-- `answer_pairs::rules::pair` meets its contract.
-- Assumes nothing.
use Rattle.answer_pairs.specs.Rules.{answer-by}
use Rattle.answer_pairs.proofs.rules.pair.Goals as goal

pub returns : goal.returns
returns c R size M Z la lb =
    rw (answer-by _ M size Z _ _ la lb, ← c.profile_of.ensures, ← c.profile_of-x.ensures) c.answer_by.ensures
