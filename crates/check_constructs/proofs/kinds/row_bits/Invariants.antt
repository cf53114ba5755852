-- The invariants and measures of `check_constructs::kinds::row_bits`.
use mathlib.Core.Path.{◌≡◌}
use Prim.Native.Nat.{◌+◌, ◌≤◌}
use Rattle.lists.specs.Mask.{mask_of}
use Rattle.check_constructs.specs.Kinds.{barred_by}
use Rattle.check_constructs.proofs.kinds.row_bits.Given as goal

abbrev pub invariant-loop-k : goal.invariant-loop-k
invariant-loop-k l = (1 ≤ l.k) × (l.k ≤ 8) × (l.bits ≡ mask_of (barred_by (l.row + 1)) l.k)
