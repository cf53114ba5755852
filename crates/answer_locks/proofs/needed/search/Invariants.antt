-- The invariants and measures of `answer_locks::needed::search`.
use mathlib.Core.List.{List}
use Prim.Native.Nat.{ℕ, ◌≤◌}
use Rattle.answer_nodes.specs.NodeSets.{ByBit}
use Rattle.answer_locks.specs.Search.{Searched}
use Rattle.answer_locks.proofs.needed.search.Given as goal

abbrev pub invariant-loop-x : goal.invariant-loop-x
invariant-loop-x l =
    (l.x ≤ l.n) × ((names : List ℕ) → ByBit l.closed names l.named → Searched l.closed l.marks names l.around l.x l.tried)
