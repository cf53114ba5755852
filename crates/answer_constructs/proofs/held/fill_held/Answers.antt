-- `answer_constructs::held::fill_held` meets its contract.
-- Assumes nothing.
use mathlib.Core.Path.{refl}
use native.Mathlib.Omega.{arith}
use Rattle.lists.specs.Store.{zeros}
use Rattle.answer_constructs.proofs.Nodes.{none-held}
use Rattle.answer_constructs.proofs.Laying.{laid-held}
use Rattle.answer_constructs.proofs.held.fill_held.Goals as goal

pub returns-then-chart-eq0 : goal.returns-then-chart-eq0
returns-then-chart-eq0 c =
    record { kinds = c.kinds_of-kinds.ensures; held_below = rw c.requires.2 (record { long = refl; has-held = λ x l. none-held _ c.args.chart c.requires.0 c.if-chart-eq0.true x; rest = λ x l. zeros 192 x }) }

pub returns : goal.returns
returns c =
    record { kinds = c.kinds_of-kinds.ensures; held_below = laid-held _ c.args.chart c.requires.0 c.fill_chains.ensures (c.kinds_of-kinds.ensures 3 (omega arith)) c.requires.2 c.lay_out.ensures }
