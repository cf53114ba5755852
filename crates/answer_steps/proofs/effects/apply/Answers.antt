-- `answer_steps::effects::apply` meets its contract.
-- Assumes nothing.
use mathlib.Core.Path.{subst}
use Rattle.theory_traces.specs.Decide.{apply}
use Rattle.answer_steps.specs.Tables.{Numbered}
use Rattle.answer_steps.proofs.Stores.{applied}
use Rattle.answer_steps.proofs.effects.apply.Goals as goal

pub returns-in-None : goal.returns-in-None
unfolding apply
returns-in-None c = λ σ S. applied σ c.args.t c.args.v c.in-None.is (S)

pub returns-in-Moves : goal.returns-in-Moves
unfolding apply
returns-in-Moves c = λ σ S. applied σ c.args.t c.args.v c.in-Moves.is (c.move_to.ensures σ S)

pub returns-in-Leaves : goal.returns-in-Leaves
unfolding apply
returns-in-Leaves c = λ σ S. applied σ c.args.t c.args.v c.in-Leaves.is (c.leave.ensures σ S)

pub returns-in-Takes : goal.returns-in-Takes
unfolding apply
returns-in-Takes c = λ σ S. applied σ c.args.t c.args.v c.in-Takes.is (c.take_section.ensures _ (c.leave-in-Takes.ensures σ S))

pub returns-in-TakesNext : goal.returns-in-TakesNext
unfolding apply
returns-in-TakesNext c = λ σ S. applied σ c.args.t c.args.v c.in-TakesNext.is (c.take_section-in-TakesNext.ensures _ (c.move_to-in-TakesNext.ensures σ S))
