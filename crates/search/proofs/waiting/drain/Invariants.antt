-- The invariants and measures of `search::waiting::drain`.
use Prim.Native.Nat.{◌+◌}
use Rattle.search.specs.Sweep.{Lies, weight, gap}
use Rattle.search.specs.Waiting.{Waiting}
use Rattle.search.proofs.waiting.drain.Given as goal

abbrev pub invariant-loop-n : goal.invariant-loop-n
invariant-loop-n l = Waiting (Lies l.keys l.values l.ups l.low) (λ z. ⊥) l.initial.masks l.head l.masks l.held l.ring l.n

abbrev pub decreases-loop-n : goal.decreases-loop-n
decreases-loop-n l = weight gap l.masks + l.n
