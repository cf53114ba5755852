-- `answer_constructs::kinds::of_kind` meets its contract.
-- Assumes nothing.
use Rattle.std.proofs.Common.{rules}
use Rattle.chart.specs.Format.{decode}
use Rattle.answer_constructs.specs.Chains.{is_of}
use Rattle.answer_constructs.proofs.kinds.of_kind.Goals as goal

pub returns : goal.returns
unfolding is_of
returns c = c.passing.ensures (is_of (decode c.args.s.now).constructs c.args.kind) (λ d b l p. search rules)
