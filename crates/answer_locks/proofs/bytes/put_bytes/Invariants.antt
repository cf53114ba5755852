-- The invariants and measures of `answer_locks::bytes::put_bytes`.
use Prim.Native.Nat.{◌≤◌}
use Rattle.answer_locks.specs.Bytes.{Put}
use Rattle.answer_locks.proofs.bytes.put_bytes.Given as goal

abbrev pub invariant-loop-c : goal.invariant-loop-c
invariant-loop-c l = (l.c ≤ l.n) × Put l.criticals l.ever l.needed l.c l.initial.out l.out
