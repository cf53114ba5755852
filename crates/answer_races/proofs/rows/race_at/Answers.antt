-- `answer_races::rows::race_at` meets its contract.
-- Assumes nothing.
use borrow.Author.Rules.{rules}
use Rattle.answer_races.specs.Bytes.{line_race}
use Rattle.answer_races.proofs.rows.race_at.Goals as goal

pub returns : goal.returns
unfolding line_race
returns c = search rules
