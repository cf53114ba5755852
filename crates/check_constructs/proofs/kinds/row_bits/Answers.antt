-- `check_constructs::kinds::row_bits` meets its contract: the bits below k are in place before turn k.
-- Assumes nothing.
use mathlib.Core.List.{[]}
use mathlib.Core.Bool.{Bool, true, false, not, cond}
use mathlib.Core.Path.{◌≡◌, refl, ap, sym, ◌∙◌}
use Prim.Native.Nat.{ℕ, ◌+◌, ◌-◌, ◌*◌, ◌%◌, ◌^◌, ◌<◌}
use native.Mathlib.Omega.{arith}
use native.Mathlib.Nat.{one-mul, zero-mul}
use lib.Bits.{bit_or, or_zero_l}
use lib.ListN.{get_or}
use lib.Pow.{shl_exact}
use mir.Val.{bool_byte}
use borrow.Author.Tests.{lt-ltb}
use Rattle.lists.specs.Mask.{mask_of}
use Rattle.lists.specs.Bits.{mask_next}
use Rattle.chart.specs.Scope.{kind_of}
use Rattle.chart.specs.Nesting.{may_enclose}
use Rattle.check_constructs.specs.Kinds.{barred_by}
use Rattle.check_constructs.proofs.kinds.row_bits.Goals as goal

pub loop-k-init : goal.loop-k-init
unfolding mask_of barred_by
loop-k-init c = (omega arith, omega arith, refl)

-- a flag at bit k of what has no such bit
one_more : (flag : Bool) (k m : ℕ) → k < 8 → bit_or ((bool_byte flag * 2 ^ k) % 2 ^ 8) m ≡ cond flag (bit_or (2 ^ k) m) m
one_more true k m l = rw (shl_exact {a = 1} 1 k 8 (omega arith) (omega arith), one-mul (2 ^ k))
one_more false k m l = rw (shl_exact {a = 0} 0 k 8 (omega arith) (omega arith), zero-mul (2 ^ k)) (or_zero_l m)

pub loop-k-preserved : goal.loop-k-preserved
unfolding barred_by
loop-k-preserved c =
    let flagged : let a = c.args in
    let k = c.loop-k.k in
    k < 8 → not (get_or (get_or a.table.now a.row []) (k - 1) false) ≡ barred_by (a.row + 1) k =
    λ h. let a = c.args in
    let k = c.loop-k.k in
    let q : k - 1 + 1 ≡ k = omega (arith, c.loop-k.invariant.0) in
    rw (lt-ltb 0 k (omega (arith, c.loop-k.invariant.0))) (ap not (c.requires.0.entry a.row (k - 1) c.requires.1 (omega (arith, h)) ∙ ap (λ (n : ℕ). may_enclose (kind_of (a.row + 1)) (kind_of n)) q)) in
    let f = barred_by (c.args.row + 1) in
    let k = c.loop-k.k in
    let next : mask_of f (k + 1) ≡ cond (f k) (bit_or (2 ^ k) c.loop-k.bits) c.loop-k.bits = rw c.loop-k.invariant.2 (mask_next f k) in
    (omega arith, omega arith, rw (flagged (omega arith)) (one_more (f k) k c.loop-k.bits (omega arith) ∙ sym next))

pub returns : goal.returns
returns c =
    let q : c.loop-k.k ≡ 8 = omega arith in
    c.loop-k.invariant.2 ∙ ap (mask_of (barred_by (c.args.row + 1))) q
