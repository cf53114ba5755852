-- `answer_locks::put_locks` meets its contract.
-- Assumes nothing.
use mathlib.Core.Path.{sym, ◌∙◌}
use Rattle.answer_locks.proofs.Written.{none-put}
use Rattle.answer_locks.proofs.put_locks.Goals as goal

pub returns-else-occurs : goal.returns-else-occurs
returns-else-occurs c =
    none-put _ c.args.chart c.requires.0 (sym c.occurs.ensures ∙ c.if-occurs.false) c.args.size c.requires.2 c.put_bytes.ensures
