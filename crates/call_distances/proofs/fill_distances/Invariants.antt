-- The invariants and measures of `call_distances::fill_distances`.
use Rattle.call_distances.proofs.Filling.{byte_at, Filled}
use Rattle.call_distances.proofs.fill_distances.Given as goal

abbrev pub invariant-loop-x : goal.invariant-loop-x
invariant-loop-x l = Filled (byte_at l.closed l.levels) l.x l.initial.out l.out
