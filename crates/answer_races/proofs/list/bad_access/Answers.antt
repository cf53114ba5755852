-- `answer_races::list::bad_access` meets its contract.
-- Assumes nothing.
use mathlib.Core.Path.{refl}
use borrow.Author.Tests.{lt-ltb, le-ltb}
use Rattle.theory_calls.specs.Access.{access_at, bad_access}
use Rattle.answer_races.proofs.list.bad_access.Goals as goal

pub returns-then-accesses-at-gt-WRITE : goal.returns-then-accesses-at-gt-WRITE
unfolding bad_access access_at
returns-then-accesses-at-gt-WRITE c R W q C = rw (lt-ltb 1 _ c.if-accesses-at-gt-WRITE.true) refl

pub returns-else-accesses-at-gt-WRITE : goal.returns-else-accesses-at-gt-WRITE
unfolding bad_access access_at
returns-else-accesses-at-gt-WRITE c R W q C = rw (le-ltb 1 _ c.if-accesses-at-gt-WRITE.false, ← c.from.ensures) (c.bad_number.ensures R W q C)
