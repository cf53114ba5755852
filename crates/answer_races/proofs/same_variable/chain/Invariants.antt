-- The invariants and measures of `answer_races::same_variable::chain`.
use mathlib.Core.Path.{◌≡◌}
use Prim.Native.Nat.{◌/◌}
use lib.ListN.{length}
use Rattle.answer_races.specs.Linked.{bucket}
use Rattle.answer_races.proofs.Chains.{Heads, Chains}
use Rattle.answer_races.proofs.same_variable.chain.Given as goal

abbrev pub invariant-loop-i : goal.invariant-loop-i
invariant-loop-i l =
    (length l.under ≡ 1024) × (length l.heads ≡ 1021) × Heads (bucket l.accesses) (length l.accesses / 4) l.i l.heads
    × Chains (bucket l.accesses) (length l.accesses / 4) l.i l.under
