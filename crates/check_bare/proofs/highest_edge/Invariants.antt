-- The invariants and measures of `check_bare::highest_edge`.
use Prim.Native.Nat.{◌≤◌}
use Rattle.check_bare.specs.Told.{edge_place, Highest}
use Rattle.check_bare.proofs.highest_edge.Given as goal

abbrev pub invariant-loop-k : goal.invariant-loop-k
invariant-loop-k l = (l.k ≤ l.last) × Highest (edge_place l.s l.first) l.k l.high
