-- The invariants and measures of `search::levels::sweep`.
use Prim.Native.Nat.{◌≤◌}
use mathlib.Core.Bool.{false}
use Rattle.search.specs.Sweep.{Run}
use Rattle.search.specs.LevelLaws.{nearer}
use Rattle.search.proofs.levels.sweep.Given as goal

abbrev pub invariant-loop-j : goal.invariant-loop-j
invariant-loop-j l = (l.j ≤ l.b) × Run nearer l.keys l.values l.a l.b false l.initial.levels l.j l.levels l.new
