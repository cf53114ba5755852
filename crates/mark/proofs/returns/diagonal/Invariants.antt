-- The invariants and measures of `mark::returns::diagonal`.
use mathlib.Core.Path.{◌≡◌}
use mathlib.Core.Bool.{Bool}
use mathlib.Core.List.{List}
use Prim.Native.Nat.{ℕ, ◌+◌}
use lib.ListN.{get_or}
use Rattle.lists.specs.Mask.{mask_of}
use Rattle.lists.specs.Bits.{has}
use Rattle.mark.proofs.returns.diagonal.Given as goal

abbrev pub own : List ℕ → List ℕ → ℕ → ℕ → Bool
own masks nodes first c = has (get_or masks (get_or nodes c 0) 0) (first + c)

abbrev pub invariant-loop-c : goal.invariant-loop-c
invariant-loop-c l = l.all ≡ mask_of (own l.masks l.nodes l.first) l.c
