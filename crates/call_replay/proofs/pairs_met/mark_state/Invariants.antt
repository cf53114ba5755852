-- The invariants and measures of `call_replay::pairs_met::mark_state`.
use Prim.Native.Nat.{◌-◌, ◌≤◌}
use Rattle.lists.specs.Range.{any}
use Rattle.call_replay.specs.PairsMet.{meets, Marks}
use Rattle.call_replay.proofs.pairs_met.mark_state.Given as goal

abbrev pub invariant-loop-t : goal.invariant-loop-t
invariant-loop-t l = (l.t ≤ l.m) × Marks (λ σ a b. any l.t (λ j. meets j σ j a b)) l.n l.rows l.team l.initial.out l.out
