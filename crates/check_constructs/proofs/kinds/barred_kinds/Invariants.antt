-- The invariants and measures of `check_constructs::kinds::barred_kinds`.
use mathlib.Core.Path.{◌≡◌}
use Prim.Native.Nat.{ℕ, ◌+◌, ◌≤◌, ◌<◌}
use lib.ListN.{length, get_or}
use Rattle.lists.specs.Mask.{mask_of}
use Rattle.check_constructs.specs.Kinds.{barred_by}
use Rattle.check_constructs.proofs.kinds.barred_kinds.Given as goal

abbrev pub invariant-loop-row : goal.invariant-loop-row
invariant-loop-row l =
    (l.row ≤ 8) × (length l.barred ≡ 8) × ((kind : ℕ) → kind < l.row → get_or l.barred kind 0 ≡ mask_of (barred_by (kind + 1)) 8)
