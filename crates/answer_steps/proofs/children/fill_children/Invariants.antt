-- The invariants and measures of `answer_steps::children::fill_children`.
use mathlib.Core.Path.{◌≡◌}
use Prim.Native.Nat.{◌-◌, ◌≤◌}
use lib.ListN.{get_or}
use Rattle.answer_steps.specs.Children.{Children}
use Rattle.answer_steps.proofs.children.fill_children.Given as goal

abbrev pub invariant-loop-x : goal.invariant-loop-x
invariant-loop-x l = (l.x ≤ l.n) × (l.n ≡ get_or l.initial.table 2033 0) × Children l.which l.x l.initial.table l.table
