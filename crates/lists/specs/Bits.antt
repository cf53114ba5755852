-- Masks computed with: the test of a bit, one bit more, the union of two masks, how many bits are set.
-- Assumes nothing.
use Rattle.std.specs.Prelude.{◌≡◌, Bool, true, false, ◌||◌, cond, ℕ, zero, suc, ◌+◌, ◌*◌, ◌/◌, ◌%◌, ◌^◌, ◌<◌, eqb}
use Rattle.std.proofs.Math.Path.{refl}
use Rattle.std.proofs.Common.{sym, ◌∙◌, inl, inr, ⊎_elim, arith, one-mul, pow-suc, add-one, eqb-true, eq-eqb}
use Rattle.std.proofs.Math.Decide.{ℕ_discrete, dec_lt}
use Rattle.std.specs.Int.Bits.{bit_or}
use Rattle.std.proofs.lemmas.Nat.{or_shifted, ones_cat}
use Rattle.std.specs.Int.Count.{ones, ones_in}
use Rattle.std.proofs.Math.Pow.{pow-lt}
use Rattle.lists.specs.Truth.{same_truth, or_left, or_right, or_cases}
use Rattle.lists.specs.Range.{count}
use Rattle.lists.specs.Mask.{Has, Mask, mask-carry, mask-unique, mask_of, mask-of, mask_is, mask-either, has_above}

-- bit b of m is set
abbrev pub has : ℕ → ℕ → Bool
has m b = eqb (m / 2 ^ b % 2) 1

pub has_of : (f : ℕ → Bool) (k b : ℕ) → b < k → has (mask_of f k) b ≡ f b
has_of f k b l = same_truth _ _ (λ h. (mask-of f k).only b l (eqb-true _ _ h)) (λ h. eq-eqb _ _ ((mask-of f k).all b l h))

-- a mask has no bit from its bound on
pub has-below : (m k b : ℕ) → m < 2 ^ k → Has m b → b < k
has-below m k b l h = go (dec_lt b k) (ℕ_discrete k b)
  where
    above : k < b → m < 2 ^ b
    above q = omega (arith, pow-lt q)

    go : Dec (b < k) → Dec (k ≡ b) → b < k
    go (yes q) d = q
    go (no q) (yes e) = absurd (has_above m b (rw e at l) h)
    go (no q) (no n) = absurd (has_above m b (above (omega arith)) h)

pub mask-same : (f g : ℕ → Bool) (k : ℕ) → ((b : ℕ) → b < k → f b ≡ g b) → mask_of f k ≡ mask_of g k
unfolding mask_of
mask-same f g zero e = refl
mask-same f g (suc k) e = rw (e k (omega arith), mask-same f g k (λ b l. e b (omega arith)))

pub mask-empty : (f : ℕ → Bool) (k : ℕ) → ((b : ℕ) → b < k → f b ≡ false) → mask_of f k ≡ 0
unfolding mask_of
mask-empty f zero e = refl
mask-empty f (suc k) e = rw (e k (omega arith), mask-empty f k (λ b l. e b (omega arith)))

pub mask_next : (f : ℕ → Bool) (k : ℕ) → mask_of f (k + 1) ≡ cond (f k) (bit_or (2 ^ k) (mask_of f k)) (mask_of f k)
unfolding mask_of
mask_next f k = rw (add-one k, mask_of) (go (f k))
  where
    go : (b : Bool) → cond b (2 ^ k) 0 + mask_of f k ≡ cond b (bit_or (2 ^ k) (mask_of f k)) (mask_of f k)
    go true = sym (rw one-mul at (or_shifted 1 k (mask_of f k) (mask-of f k).small))
    go false = omega arith

pub or-mask : (f g : ℕ → Bool) (k : ℕ) → bit_or (mask_of f k) (mask_of g k) ≡ mask_of (λ b. f b || g b) k
or-mask f g k = mask_is (λ b. f b || g b)
    (λ b l h. ⊎_elim (λ p. or_left (f b) (g b) p) (λ p. or_right (f b) (g b) p) h) (λ b l h. or_cases (f b) (g b) h) (mask-either (mask-of f k) (mask-of g k))

pub ones-mask : (f : ℕ → Bool) (k : ℕ) → ones (mask_of f k) ≡ count k f
unfolding mask_of count
ones-mask f zero = unfold ones ones_in in refl
ones-mask f (suc k) = go (f k) (ones-mask f k)
  where
    single : ones (1 * 2 ^ k + mask_of f k) ≡ 1 + ones (mask_of f k)
    single = ones_cat k 1 (mask_of f k) (mask-of f k).small ∙ (unfold ones ones_in in refl)

    go : (b : Bool) → ones (mask_of f k) ≡ count k f → ones (cond b (2 ^ k) 0 + mask_of f k) ≡ count k f + cond b 1 0
    go true e = omega (arith, rw one-mul at single)
    go false e = let z : 0 + mask_of f k ≡ mask_of f k = omega arith in rw z (omega arith)

-- a union with what is in it already

pow_more : (n : ℕ) → n < 2 ^ n
pow_more zero = omega arith
pow_more (suc n) = omega (arith, pow_more n, pow-suc 2 n)

pub or-again : (a b : ℕ) → bit_or (bit_or a b) b ≡ bit_or a b
or-again a b =
    let l = pow_more (a + b) in
    let both = mask-either (own a (omega arith)) (own b (omega arith)) in
    mask-unique (mask-either both (own b (omega arith))) (mask-carry (λ i q p. inl p) (λ i q p. ⊎_elim (λ r. r) inr p) both)
  where
    own : (n : ℕ) → n < 2 ^ (a + b) → Mask (Has n) (a + b) n
    own n h = record { small = h; only = λ i q p. p; all = λ i q p. p }
