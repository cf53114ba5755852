-- The invariants and measures of `search::breadth::search`.
use Prim.Native.Nat.{ℕ, ◌-◌}
use lib.ListN.{length}
use Rattle.search.specs.Steps.{Leads}
use Rattle.search.specs.Invariant.{State}
use Rattle.search.proofs.breadth.search.Given as goal

abbrev pub invariant-loop-head : goal.invariant-loop-head
invariant-loop-head l =
    (v : ℕ) × State (Leads l.values l.places) l.fn.levels l.sources (length l.sources) (length l.sources) v l.head l.levels l.queue l.tail

abbrev pub decreases-loop-head : goal.decreases-loop-head
decreases-loop-head l = 192 - l.head
