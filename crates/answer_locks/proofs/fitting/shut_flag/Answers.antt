-- `answer_locks::fitting::shut_flag` meets its contract.
-- Assumes nothing.
use Rattle.std.proofs.Common.{rules}
use Rattle.lists.specs.Truth.{and-false, and-true}
use Rattle.answer_locks.specs.Fitting.{lacking}
use Rattle.answer_locks.proofs.fitting.shut_flag.Goals as goal

pub returns-then-common : goal.returns-then-common
unfolding lacking
returns-then-common c = search (rules, and-false)

pub returns-else-common : goal.returns-else-common
unfolding lacking
returns-else-common c = search (rules, and-true)
