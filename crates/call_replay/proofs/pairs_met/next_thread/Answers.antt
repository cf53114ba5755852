-- `call_replay::pairs_met::next_thread` meets its contract.
-- Assumes nothing.
use native.Mathlib.Omega.{arith}
use borrow.Author.Tests.{lt-ltb, le-ltb}
use Rattle.call_replay.proofs.pairs_met.next_thread.Goals as goal

pub overflow_add-j : goal.overflow_add-j
overflow_add-j c = omega (arith, c.requires.0, c.requires.1, c.requires.2)

pub returns-then-j-m : goal.returns-then-j-m
returns-then-j-m c = rw (lt-ltb _ _ c.if-j-m.true)

pub returns : goal.returns
returns c = rw (le-ltb _ _ c.if-j-m.false)
