-- `search::edges::kept` meets its contract: the two stops are looked at together. Assumes nothing.
use borrow.Author.Tests.{eqb-true}
use Rattle.search.proofs.Steps.{or-none}
use Rattle.search.proofs.edges.kept.Goals as goal

pub returns-clause-clear : goal.returns-clause-clear
returns-clause-clear c = λ h. or-none _ _ (eqb-true _ _ h)
