-- `answer_steps::children::fill_children` meets its contract. The loop's invariant: the constructs passed are in the masks.
-- Assumes nothing.
use mathlib.Core.Path.{◌≡◌, ◌∙◌}
use mathlib.Core.Logic.{inl}
use Prim.Native.Nat.{◌+◌, ◌-◌, ◌≤◌}
use native.Mathlib.Omega.{arith}
use lib.ListN.{get_or}
use Rattle.answer_steps.proofs.Sorts.{children-none}
use Rattle.answer_steps.proofs.children.fill_children.Goals as goal

pub loop-x-init : goal.loop-x-init
loop-x-init c = (omega arith, c.at-n.ensures, children-none c.args.which c.requires.by_index_2)
