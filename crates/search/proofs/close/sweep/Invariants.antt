-- The invariants and measures of `search::close::sweep`.
use Prim.Native.Nat.{◌≤◌}
use lib.Bits.{bit_or}
use Rattle.search.specs.Sweep.{Run}
use Rattle.search.proofs.close.sweep.Given as goal

abbrev pub invariant-loop-j : goal.invariant-loop-j
invariant-loop-j l = (l.j ≤ l.b) × Run bit_or l.keys l.values l.a l.b l.back l.initial.masks l.j l.masks l.new
