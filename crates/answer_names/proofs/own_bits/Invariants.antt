-- The invariants and measures of `answer_names::own_bits`.
use mathlib.Core.Path.{◌≡◌}
use Prim.Native.Nat.{ℕ, ◌^◌, ◌<◌}
use lib.Bits.{bit_and}
use lib.ListN.{length, get_or}
use Rattle.answer_names.proofs.own_bits.Given as goal

abbrev pub invariant-loop-c : goal.invariant-loop-c
invariant-loop-c l = (length l.own ≡ 48) × ((d : ℕ) → d < l.c → get_or l.own d 0 ≡ bit_and (get_or l.given d 0) (2 ^ d))
