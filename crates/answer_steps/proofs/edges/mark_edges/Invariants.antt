-- The invariants and measures of `answer_steps::edges::mark_edges`.
use Prim.Native.Nat.{◌-◌, ◌≤◌}
use Rattle.search.specs.Parts.{row}
use Rattle.answer_steps.specs.Words.{Beside, Marked}
use Rattle.answer_steps.proofs.edges.mark_edges.Given as goal

abbrev pub invariant-loop-i : goal.invariant-loop-i
invariant-loop-i l = (l.i ≤ l.n) × Marked (row l.edges 0) (row l.edges 1) l.i l.table × Beside 0 1024 l.initial.table l.table
