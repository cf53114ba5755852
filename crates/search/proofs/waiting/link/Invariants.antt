-- The invariants and measures of `search::waiting::link`.
use Prim.Native.Nat.{ℕ, ◌≤◌}
use Rattle.search.specs.Waiting.{Upto, Linked}
use Rattle.search.proofs.waiting.link.Given as goal

abbrev pub invariant-loop-j : goal.invariant-loop-j
invariant-loop-j l =
    (l.a ≤ l.j) × (l.j ≤ l.b) × ((u : ℕ) → u ≤ l.a → Linked l.keys (Upto u l.a l.a) l.initial.last l.initial.before → Linked l.keys (Upto u l.a l.j) l.last l.before)
