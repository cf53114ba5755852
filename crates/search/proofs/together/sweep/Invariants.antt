-- The invariants and measures of `search::together::sweep`.
use Prim.Native.Nat.{◌≤◌}
use Rattle.search.specs.Together.{Together}
use Rattle.search.proofs.together.sweep.Given as goal

abbrev pub invariant-loop-j : goal.invariant-loop-j
invariant-loop-j l =
    (l.j ≤ l.b) × Together l.keys l.values l.a l.b l.initial.starts l.initial.levels l.initial.ends l.j l.starts l.levels l.ends l.new
