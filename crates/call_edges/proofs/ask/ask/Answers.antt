-- `call_edges::ask::ask` meets its contract.
-- Assumes nothing.
use Rattle.theory_edits.specs.AskingLaws.{ask-correct}
use Rattle.call_edges.proofs.ask.ask.Goals as goal

pub returns : goal.returns
returns c = let is = c.ask_into.ensures.value in record { value = is; ask_correct = rw is (ask-correct _ _ _ _) }
