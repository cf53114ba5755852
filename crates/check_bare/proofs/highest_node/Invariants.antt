-- The invariants and measures of `check_bare::highest_node`.
use Prim.Native.Nat.{◌≤◌}
use Rattle.check_bare.specs.Told.{node_place, Highest}
use Rattle.check_bare.proofs.highest_node.Given as goal

abbrev pub invariant-loop-k : goal.invariant-loop-k
invariant-loop-k l = (l.k ≤ l.all) × Highest (node_place l.s) l.k l.high
