-- `answer_constructs::peers::peers` meets its contract.
-- Assumes nothing.
use Rattle.std.proofs.Common.{rules}
use Rattle.chart.specs.Format.{decode}
use Rattle.answer_constructs.specs.Chains.{is_like}
use Rattle.answer_constructs.proofs.peers.peers.Goals as goal

pub returns : goal.returns
unfolding is_like
returns c =
    let k = c.args.construct in
    c.passing.ensures (is_like (decode c.args.s.now).constructs k.kind k.name k.filter) (λ d b l p. search rules)
