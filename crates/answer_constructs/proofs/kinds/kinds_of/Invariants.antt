-- The invariants and measures of `answer_constructs::kinds::kinds_of`.
use mathlib.Core.Path.{◌≡◌}
use Prim.Native.Nat.{ℕ, ◌≤◌, ◌<◌}
use lib.ListN.{length, get_or}
use Rattle.lists.specs.Mask.{mask_of}
use Rattle.chart.specs.Format.{decode}
use Rattle.answer_constructs.specs.Chains.{rule_byte, is_of}
use Rattle.answer_constructs.proofs.kinds.kinds_of.Given as goal

abbrev pub invariant-loop-k : goal.invariant-loop-k
invariant-loop-k l =
    (l.k ≤ 4) × (length l.kinds ≡ 4) × ((j : ℕ) → j < l.k → get_or l.kinds j 0 ≡ mask_of (is_of (decode l.s).constructs (rule_byte j)) l.chart.constructs)
