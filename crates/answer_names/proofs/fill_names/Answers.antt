-- `answer_names::fill_names` meets its contract.
-- Assumes nothing.
use native.Mathlib.Omega.{arith}
use Rattle.chart.proofs.Records.{nodes-length}
use Rattle.answer_names.proofs.Peers.{spread-names}
use Rattle.answer_names.proofs.fill_names.Goals as goal

pub returns : goal.returns
returns c =
    let n = nodes-length _ c.args.chart c.requires.0.laid in
    record { names = spread-names _ c.args.chart c.requires.0 c.fill_given.ensures c.spread.ensures; by_index = λ x l. c.spread.ensures.past x (omega arith) }
