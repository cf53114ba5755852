-- The invariants and measures of `answer_pairs::rules::ruled_by`.
use mathlib.Core.Path.{◌≡◌}
use mathlib.Core.Bool.{false}
use Prim.Native.Nat.{◌≤◌}
use lib.ListN.{get_or}
use Rattle.lists.specs.Range.{any}
use Rattle.lists.specs.Common.{common}
use Rattle.answer_pairs.proofs.rules.ruled_by.Given as goal

abbrev pub invariant-loop-k : goal.invariant-loop-k
invariant-loop-k l = (l.k ≤ 4) × (any l.k (λ j. common l.both (get_or l.sets.kinds j 0)) ≡ false)
