-- The invariants and measures of `answer_sheet::eights::fill_fence`.
use mathlib.Core.Path.{◌≡◌}
use mathlib.Core.Bool.{cond}
use Prim.Native.Nat.{ℕ, ◌+◌, ◌*◌, ◌≤◌, ◌<◌}
use lib.Dec.{eqb}
use lib.ListN.{length, get_or}
use Rattle.answer_sheet.specs.Fan.{fan}
use Rattle.answer_sheet.proofs.eights.fill_fence.Given as goal

abbrev pub invariant-loop-k : goal.invariant-loop-k
invariant-loop-k l =
    (l.k ≤ 24) × (length l.fence ≡ 64)
    × ((j : ℕ) → j < l.k → get_or l.fence j 0 ≡ fan (λ i. cond (eqb (get_or l.closed (8 * j + i) 0) 0) 0 255) 8)
