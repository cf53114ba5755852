-- The invariants and measures of `answer_races::same_variable::next_of`.
use Prim.Native.Nat.{◌-◌, ◌/◌}
use lib.ListN.{length}
use Rattle.answer_races.proofs.Chains.{Sought}
use Rattle.answer_races.proofs.same_variable.next_of.Given as goal

abbrev pub invariant-loop-k : goal.invariant-loop-k
invariant-loop-k l = Sought l.accesses l.i l.k

abbrev pub decreases-loop-k : goal.decreases-loop-k
decreases-loop-k l = length l.accesses / 4 - l.k
