-- The invariants and measures of `call_replay::pairs_met::mark_before`.
use Prim.Native.Nat.{◌-◌, ◌≤◌}
use Rattle.call_replay.specs.PairsMet.{meets, Marks}
use Rattle.call_replay.proofs.pairs_met.mark_before.Given as goal

abbrev pub invariant-loop-k : goal.invariant-loop-k
invariant-loop-k l = (l.k ≤ l.t) × Marks (λ σ. meets l.k σ l.t) l.n l.rows l.team l.initial.out l.out
