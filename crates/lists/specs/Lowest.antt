-- The lowest bit of a mask that is not 0: where it stands, and the mask without it, which is m & (m - 1).
-- Assumes nothing.
use Rattle.std.specs.Prelude.{◌≡◌, refl, ◌≢◌, ◌↔◌, ℕ, zero, suc, ◌-◌, ◌/◌, ◌%◌, ◌^◌, ◌<◌}
use Rattle.std.proofs.Common.{sym, ◌∙◌, arith, pow-suc, one-add, shr-shr}
use Rattle.std.specs.Int.Bits.{bit_and}
use Rattle.std.specs.Int.Count.{count_trailing_zeros, under}
use Rattle.lists.specs.Mask.{Has}
use Rattle.lists.specs.Common.{and_both, both-and}

-- bit i + 1 of a number is bit i of its half
has-half : (n i : ℕ) → n / 2 ^ suc i % 2 ≡ n / 2 / 2 ^ i % 2
has-half n i = rw (← one-add i, ← shr-shr n 1 i)

-- One less than n has not its lowest bit, and all of its others.
pub record Lowest (n t k : ℕ) : Type 0 where
  pub below : t < k
  pub own : Has n t
  pub gone : Has (n - 1) t → ⊥
  pub others : (i : ℕ) → i ≢ t → Has n i → Has (n - 1) i

lowest-odd : (n k : ℕ) → n % 2 ≡ 1 → Lowest n 0 (suc k)
lowest-odd n k e = record {
  below = omega arith;
  own = omega arith;
  gone = λ h. omega arith;
  others = same;
}
  where
    same : (i : ℕ) → i ≢ 0 → Has n i → Has (n - 1) i
    same zero d h = absurd (d refl)
    same (suc i) d h =
        let q : (n - 1) / 2 ≡ n / 2 = omega arith in
        has-half (n - 1) i ∙ rw q (sym (has-half n i) ∙ h)

lowest-even : (n t k : ℕ) → n % 2 ≡ 0 → 0 < n → Lowest (n / 2) t k → Lowest n (suc t) (suc k)
lowest-even n t k e p l = record {
  below = omega (arith, l.below);
  own = has-half n t ∙ l.own;
  gone = λ h. l.gone (rw half at (sym (has-half (n - 1) t) ∙ h));
  others = same;
}
  where
    half : (n - 1) / 2 ≡ n / 2 - 1
    half = omega arith

    same : (i : ℕ) → i ≢ suc t → Has n i → Has (n - 1) i
    same zero d h = absurd (omega arith)
    same (suc i) d h = has-half (n - 1) i ∙ rw half (l.others i (λ e. d (rw e)) (sym (has-half n i) ∙ h))

pub lowest : (k n : ℕ) → 0 < n → n < 2 ^ k → Lowest n (count_trailing_zeros k n) k
unfolding count_trailing_zeros
lowest zero n p l = absurd (omega arith)
lowest (suc k) n p l = go (n % 2) refl (λ h. lowest k (n / 2) h (omega (arith, pow-suc 2 k)))
  where
    go : (d : ℕ) → n % 2 ≡ d → (0 < n / 2 → Lowest (n / 2) (count_trailing_zeros k (n / 2)) k) → Lowest n (under d (count_trailing_zeros k (n / 2))) (suc k)
    go zero e r = lowest-even n (count_trailing_zeros k (n / 2)) k e p (r (omega arith))
    go (suc d) e r = lowest-odd n k (omega arith)

-- the mask without it
pub without-lowest : {n t k : ℕ} → Lowest n t k → (i : ℕ) → Has (bit_and n (n - 1)) i ↔ (Has n i × (i ≢ t))
without-lowest {n} {t} l i = (
  (λ h. let (a, b) = and_both n (n - 1) i h in (a, λ e. l.gone (rw e at b))),
  λ (h, d). both-and n (n - 1) i h (l.others i d h),
)
