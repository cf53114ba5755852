-- The invariants and measures of `mark::returns::add_ends`.
use Prim.Native.Nat.{◌+◌, ◌≤◌}
use Rattle.mark.specs.Returning.{Added}
use Rattle.mark.proofs.returns.add_ends.Given as goal

abbrev pub invariant-loop-c : goal.invariant-loop-c
invariant-loop-c l = (l.c ≤ l.n) × Added l.ends l.c l.barriers l.initial.nodes (l.barriers + l.c) l.nodes
