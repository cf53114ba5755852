-- The invariants and measures of `answer_locks::fitting::close_lacking`.
use mathlib.Core.Path.{◌≡◌}
use mathlib.Core.Bool.{◌&&◌, not}
use Prim.Native.Nat.{ℕ, ◌≤◌, ◌<◌}
use lib.Dec.{eqb}
use lib.ListN.{length, get_or}
use Rattle.answer_locks.specs.Fitting.{lacking}
use Rattle.answer_locks.proofs.fitting.close_lacking.Given as goal

abbrev pub invariant-loop-x : goal.invariant-loop-x
invariant-loop-x l =
    (l.x ≤ l.n) × (length l.shut ≡ 192) × ((y : ℕ) → y < l.x → eqb (get_or l.shut y 0) 0 ≡ (eqb (get_or l.closed y 0) 0 && not (lacking l.sets (get_or l.marks.held y 0))))
