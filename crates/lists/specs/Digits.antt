-- The digits of a number to the base 2 ^ w: a bit of a digit is a bit of the number.
-- Assumes nothing.
use Rattle.std.specs.Prelude.{◌≡◌, ℕ, zero, suc, ◌+◌, ◌*◌, ◌-◌, ◌/◌, ◌%◌, ◌^◌, ◌<◌}
use Rattle.std.proofs.Common.{ap, ◌∙◌, arith, pow-suc, mul-suc, mul-zero, pow-add, shr-shr}
use Rattle.std.proofs.Math.Nat.{pow-zero}
use Rattle.std.proofs.Math.Pow.{field, mod-mod-pow}

pow-pow : (w k : ℕ) → (2 ^ w) ^ k ≡ 2 ^ (w * k)
pow-pow w zero = rw (mul-zero w, pow-zero 2, pow-zero (2 ^ w))
pow-pow w (suc k) = rw (pow-suc (2 ^ w) k, mul-suc w k, pow-add 2 (w * k) w, pow-pow w k)

-- bit i of a number below 2 ^ w is not touched by what is above
low_bit : (n w i : ℕ) → i < w → n % 2 ^ w / 2 ^ i % 2 ≡ n / 2 ^ i % 2
low_bit n w i l =
    let q : w ≡ (w - (i + 1) + 1) + i = omega arith in
    let d = w - (i + 1) in
    let r : n % 2 ^ ((d + 1) + i) / 2 ^ i % 2 ≡ n / 2 ^ i % 2 = rw (field n (d + 1) i) (mod-mod-pow (n / 2 ^ i) d 1) in
    ap (λ (v : ℕ). n % 2 ^ v / 2 ^ i % 2) q ∙ r

pub digit-bit : (w m k i : ℕ) → i < w → m / (2 ^ w) ^ k % 2 ^ w / 2 ^ i % 2 ≡ m / 2 ^ (w * k + i) % 2
digit-bit w m k i l = low_bit (m / (2 ^ w) ^ k) w i l ∙ rw (pow-pow w k, shr-shr m (w * k) i)
