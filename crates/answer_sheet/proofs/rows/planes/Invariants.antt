-- The invariants and measures of `answer_sheet::rows::planes`.
use Prim.Native.Nat.{ℕ, ◌≤◌}
use lib.ListN.{get_or}
use Rattle.lists.specs.Bits.{has}
use Rattle.answer_sheet.specs.Eights.{digit}
use Rattle.answer_sheet.proofs.Ranks.{Ruled}
use Rattle.answer_sheet.proofs.rows.planes.Given as goal

abbrev pub invariant-loop-k : goal.invariant-loop-k
invariant-loop-k l = (l.k ≤ 4) × ((j : ℕ) → Ruled (has l.both j) (λ i. has (get_or l.rules i 0) j) l.k (has l.left j) (digit l.p j))
