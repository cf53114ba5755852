-- `answer_constructs::sizes::missing_of` meets its contract.
-- Assumes nothing.
use Rattle.std.proofs.Common.{rules}
use Rattle.chart.specs.Format.{decode}
use Rattle.answer_constructs.specs.Chains.{is_over}
use Rattle.answer_constructs.proofs.sizes.missing_of.Goals as goal

pub returns : goal.returns
unfolding is_over
returns c = c.passing.ensures (is_over (decode c.args.s.now).constructs c.args.threads) (λ d b l p. search rules)
