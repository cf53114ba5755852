-- The invariants and measures of `call_phases::fill::fill_phases`.
use Prim.Native.Nat.{◌*◌}
use Rattle.call_phases.proofs.Filling.{mask_at, Filled}
use Rattle.call_phases.proofs.fill.fill_phases.Given as goal

abbrev pub invariant-loop-x : goal.invariant-loop-x
invariant-loop-x l = Filled (mask_at l.starts l.ends) (2 * l.x) l.initial.out l.out
