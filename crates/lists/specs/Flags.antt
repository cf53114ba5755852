-- Tests as flags, 1 or 0, so that code can gather many of them without a branch.
-- Assumes nothing.
use Rattle.std.specs.Prelude.{◌≡◌, refl, Bool, true, false, ◌&&◌, ◌||◌, not, cond, eqb}
use Rattle.std.specs.Int.Bits.{bit_and, bit_or}
use mir.Val.{bool_byte}

pub as-flag : (b : Bool) → bool_byte b ≡ cond b 1 0
as-flag true = refl
as-flag false = refl

pub and_flags : (a b : Bool) → bit_and (cond a 1 0) (cond b 1 0) ≡ cond (a && b) 1 0
and_flags true true = refl
and_flags true false = refl
and_flags false true = refl
and_flags false false = refl

pub or_flags : (a b : Bool) → bit_or (cond a 1 0) (cond b 1 0) ≡ cond (a || b) 1 0
or_flags true true = refl
or_flags true false = refl
or_flags false true = refl
or_flags false false = refl

pub flag-asks : (b : Bool) → not (eqb (cond b 1 0) 0) ≡ b
flag-asks true = refl
flag-asks false = refl
