-- The invariants and measures of `call_replay::pairs_met::mark_thread`.
use Prim.Native.Nat.{◌-◌, ◌≤◌}
use Rattle.lists.specs.Range.{any}
use Rattle.call_replay.specs.PairsMet.{meet, next_thread, Marks}
use Rattle.call_replay.proofs.pairs_met.mark_thread.Given as goal

abbrev pub invariant-loop-k : goal.invariant-loop-k
invariant-loop-k l = (1 ≤ l.k) × (l.k ≤ l.m) × Marks (λ σ a b. any l.k (λ i. meet σ l.t (next_thread l.m l.t i) a b)) l.n l.rows l.team l.initial.out l.out
