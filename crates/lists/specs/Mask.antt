-- Masks: numbers read as sets of the bits that are set in them.
-- Assumes nothing.
use Rattle.std.specs.Prelude.{◌≡◌, refl, ◌⊎◌, Bool, true, false, cond, ℕ, zero, suc, ◌+◌, ◌-◌, ◌*◌, ◌/◌, ◌%◌, ◌^◌, ◌≤◌, ◌<◌, max}
use Rattle.std.proofs.Common.{sym, ◌∙◌, inl, inr, ⊎_elim, arith, pow-suc, mod-eq_of_lt, one-mul, zero-add, one-add, pow_pos, pow-add}
use Rattle.std.proofs.Math.Decide.{ℕ_discrete, dec_lt}
use Rattle.std.proofs.Math.Nat.{div-eq_of_lt}
use Rattle.std.specs.Int.Bits.{bit_or, or_step, or_add_and}
use Rattle.std.proofs.lemmas.Nat.{or_shr, or_lt, and_le_r, or_shifted, mod-pow-add, shl-shr}
use Rattle.std.proofs.Math.Pow.{pow-lt}
use Rattle.lists.specs.Truth.{bad, truth}

-- bit b of m is set
abbrev pub Has : ℕ → ℕ → Type 0
Has m b = m / 2 ^ b % 2 ≡ 1

-- every bit of a is one of b
abbrev pub Sub : ℕ → ℕ → Type 0
Sub a b = (i : ℕ) → Has a i → Has b i

-- Of the bits below k, m has those that P holds for; it has no other.
pub record Mask (P : ℕ → Type 0) (k m : ℕ) : Type 0 where
  pub small : m < 2 ^ k
  pub only : (b : ℕ) → b < k → Has m b → P b
  pub all : (b : ℕ) → b < k → P b → Has m b

-- the mask of the numbers below k that pass f
unfoldable pub mask_of : (ℕ → Bool) → ℕ → ℕ
mask_of f zero = 0
mask_of f (suc k) = cond (f k) (2 ^ k) 0 + mask_of f k

-- the bits of a union

max_cases : (x y : ℕ) → max x y ≡ 1 → (x ≡ 1) ⊎ (y ≡ 1)
max_cases zero y e = inr (omega arith)
max_cases (suc zero) y e = inl refl
max_cases (suc (suc x)) y e = absurd (omega arith)

or-has : (a b i : ℕ) → bit_or a b / 2 ^ i % 2 ≡ max (a / 2 ^ i % 2) (b / 2 ^ i % 2)
or-has a b i = rw (or_shr a b i) (omega (arith, or_step (a / 2 ^ i) (b / 2 ^ i)))

pub or_cases : (a b i : ℕ) → Has (bit_or a b) i → Has a i ⊎ Has b i
or_cases a b i h = max_cases (a / 2 ^ i % 2) (b / 2 ^ i % 2) (sym (or-has a b i) ∙ h)

pub or_left : (a b : ℕ) → Sub a (bit_or a b)
or_left a b i h = omega (arith, or-has a b i)

pub or_right : (a b : ℕ) → Sub b (bit_or a b)
or_right a b i h = omega (arith, or-has a b i)

pub or-more : (a b : ℕ) → a ≤ bit_or a b
or-more a b = omega (arith, or_add_and a b, and_le_r a b)

-- the bits of 0 and of a power of two

pub has_above : (m b : ℕ) → m < 2 ^ b → Has m b → ⊥
has_above m b l h = let z : m / 2 ^ b ≡ 0 = div-eq_of_lt l in omega arith

pub has-none : (b : ℕ) → Has 0 b → ⊥
has-none b = has_above 0 b (pow_pos b)

pub has-own : (b : ℕ) → Has (2 ^ b) b
has-own b = let z : 2 ^ b / 2 ^ b ≡ 1 = simp one-mul at (shl-shr 1 b) in omega arith

pub has-pow : (b i : ℕ) → Has (2 ^ b) i → i ≡ b
has-pow b i h = go (ℕ_discrete i b) (dec_lt b i)
  where
    even : (d : ℕ) → b ≡ suc d + i → ⊥
    even d e =
        let p : 2 ^ b ≡ (2 ^ d * 2) * 2 ^ i = rw (e, pow-add 2 (suc d) i, pow-suc 2 d) refl in
        let z : 2 ^ b / 2 ^ i ≡ 2 ^ d * 2 = rw p (shl-shr (2 ^ d * 2) i) in
        omega arith

    go : Dec (i ≡ b) → Dec (b < i) → i ≡ b
    go (yes e) d = e
    go (no n) (yes l) = absurd (has_above (2 ^ b) i (pow-lt l) h)
    go (no n) (no l) = absurd (even (b - suc i) (omega arith))

-- a mask is determined by what it is the mask of

same-mod : (m n k : ℕ) → ((b : ℕ) → b < k → Has m b → Has n b) → ((b : ℕ) → b < k → Has n b → Has m b) → m % 2 ^ k ≡ n % 2 ^ k
same-mod m n zero f g = omega arith
same-mod m n (suc k) f g =
    let low = same-mod m n k (λ b l. f b (omega arith)) (λ b l. g b (omega arith)) in
    rw (← one-add k, mod-pow-add m 1 k, mod-pow-add n 1 k, digit (ℕ_discrete (m / 2 ^ k % 2) 1), low)
  where
    digit : Dec (m / 2 ^ k % 2 ≡ 1) → m / 2 ^ k % 2 ≡ n / 2 ^ k % 2
    digit (yes h) = omega (arith, f k (omega arith) h)
    digit (no h) = other (ℕ_discrete (n / 2 ^ k % 2) 1)
      where
        other : Dec (n / 2 ^ k % 2 ≡ 1) → m / 2 ^ k % 2 ≡ n / 2 ^ k % 2
        other (yes e) = absurd (h (g k (omega arith) e))
        other (no e) = omega arith

pub mask-carry : {P Q : ℕ → Type 0} {k m : ℕ} → ((b : ℕ) → b < k → P b → Q b) → ((b : ℕ) → b < k → Q b → P b) → Mask P k m → Mask Q k m
mask-carry f g v = record { small = v.small; only = λ b l h. f b l (v.only b l h); all = λ b l p. v.all b l (g b l p) }

pub mask-unique : {P : ℕ → Type 0} {k m n : ℕ} → Mask P k m → Mask P k n → m ≡ n
mask-unique {k = k} {m = m} {n = n} v w =
    let e = same-mod m n k (λ b l h. w.all b l (v.only b l h)) (λ b l h. v.all b l (w.only b l h)) in
    sym (mod-eq_of_lt v.small) ∙ e ∙ mod-eq_of_lt w.small

pub mask-either : {P Q : ℕ → Type 0} {k m n : ℕ} → Mask P k m → Mask Q k n → Mask (λ b. P b ⊎ Q b) k (bit_or m n)
mask-either {k = k} {m = m} {n = n} v w = record {
  small = or_lt k m n v.small w.small;
  only = λ b l h. ⊎_elim (λ p. inl (v.only b l p)) (λ p. inr (w.only b l p)) (or_cases m n b h);
  all = λ b l h. ⊎_elim (λ p. or_left m n b (v.all b l p)) (λ p. or_right m n b (w.all b l p)) h;
}

-- and `mask_of` is the mask of the numbers that pass

pub mask-of : (f : ℕ → Bool) (k : ℕ) → Mask (λ b. f b ≡ true) k (mask_of f k)
unfolding mask_of
mask-of f zero = record { small = omega arith; only = λ b l. absurd (omega arith); all = λ b l. absurd (omega arith) }
mask-of f (suc k) = go (truth (f k)) (mask-of f k)
  where
    double : 2 ^ suc k ≡ 2 ^ k * 2
    double = pow-suc 2 k

    split : {A : Type 0} (b : ℕ) → b < suc k → (b ≡ k → A) → (b < k → A) → A
    split b l f g = elim (ℕ_discrete b k) [ yes e ↦ f e | no e ↦ g (omega arith) ]

    go : (f k ≡ true) ⊎ (f k ≡ false) → Mask (λ b. f b ≡ true) k (mask_of f k) → Mask (λ b. f b ≡ true) (suc k) (cond (f k) (2 ^ k) 0 + mask_of f k)
    go (inl t) v =
        let or : bit_or (2 ^ k) (mask_of f k) ≡ 2 ^ k + mask_of f k = rw one-mul at (or_shifted 1 k (mask_of f k) v.small) in
        rw (t, ← or) (record {
          small = rw or (omega (arith, v.small, double));
          only = λ b l h. ⊎_elim (λ p. rw (has-pow k b p) t) (λ p. split b l (λ e. rw e t) (λ l. v.only b l p)) (or_cases (2 ^ k) (mask_of f k) b h);
          all = λ b l p. split b l (λ e. rw e (or_left (2 ^ k) (mask_of f k) k (has-own k))) (λ l. or_right (2 ^ k) (mask_of f k) b (v.all b l p));
        })
    go (inr t) v = rw (t, zero-add) (record {
      small = omega (arith, v.small, double);
      only = λ b l h. split b l (λ e. absurd (has_above (mask_of f k) k v.small (rw e at h))) (λ l. v.only b l h);
      all = λ b l p. split b l (λ e. absurd (bad (cc))) (λ l. v.all b l p);
    })

pub mask_is : {P : ℕ → Type 0} {k m : ℕ} (f : ℕ → Bool) → ((b : ℕ) → b < k → P b → f b ≡ true) → ((b : ℕ) → b < k → f b ≡ true → P b)
    → Mask P k m → m ≡ mask_of f k
mask_is {k = k} f to from v = mask-unique (mask-carry to from v) (mask-of f k)
