-- `answer_names::spread` meets its contract.
-- Assumes nothing.
use Rattle.answer_names.proofs.Peers.{laid-spread}
use Rattle.answer_names.proofs.spread.Goals as goal

pub returns : goal.returns
returns c =
    laid-spread _ c.args.chart c.requires.0 c.fill_chains.ensures c.lay_out.ensures
