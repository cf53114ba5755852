-- The invariants and measures of `answer_races::rows::walk`.
use Prim.Native.Nat.{◌-◌}
use lib.ListN.{length}
use Rattle.theory_calls.specs.Access.{total}
use Rattle.answer_races.proofs.Visits.{Walking}
use Rattle.answer_races.proofs.rows.walk.Given as goal

abbrev pub invariant-loop-k : goal.invariant-loop-k
invariant-loop-k l = Walking l.accesses l.i l.links l.line l.j l.k (length l.initial.out) l.out

abbrev pub decreases-loop-k : goal.decreases-loop-k
decreases-loop-k l = total l.accesses - l.j
