-- `answer_pairs::rules::profile_of` meets its contract.
-- Assumes nothing.
use mathlib.Core.Path.{refl}
use Rattle.answer_pairs.specs.Rules.{profile_at}
use Rattle.answer_pairs.proofs.rules.profile_of.Goals as goal

pub returns : goal.returns
unfolding profile_at
returns c = refl
