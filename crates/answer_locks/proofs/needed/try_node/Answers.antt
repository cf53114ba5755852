-- `answer_locks::needed::try_node` meets its contract: the node is skipped, or tried.
-- Assumes nothing.
use Rattle.answer_locks.proofs.Turns.{new-tries}
use Rattle.answer_locks.proofs.needed.try_node.Goals as goal

pub returns : goal.returns
returns c = λ shut marks names I N K.
    let e = c.args in
    let U = c.unbarred_nodes-set.ensures shut marks I in
    new-tries N (c.skips.ensures.1 c.if-skips.false) e.own e.around e.last _ _ U (c.met_nodes-met.ensures shut marks I U) c.needing-ever.ensures c.needing-needed.ensures
