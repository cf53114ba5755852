-- Tests over all numbers below a bound: every one passes, some one passes, how many pass, the first that passes.
-- Assumes nothing.
use Rattle.std.specs.Prelude.{◌≡◌, refl, ◌⊎◌, ◌≢◌, Bool, true, false, ◌&&◌, ◌||◌, cond, ℕ, zero, suc, ◌+◌, ◌≤◌, ◌<◌}
use Rattle.std.proofs.Common.{ap, sym, ◌∙◌, inl, inr, ⊎_elim, arith, add-one}
use Rattle.std.proofs.Math.Decide.{ℕ_discrete, dec_lt}
use Rattle.lists.specs.Truth.{bad, clash, truth, false-if, and_both, or_cases, or_left, or_right, same_truth}

-- f passes at each number below n
unfoldable pub every : ℕ → (ℕ → Bool) → Bool
every zero f = true
every (suc n) f = every n f && f n

-- f passes at some number below n
unfoldable pub any : ℕ → (ℕ → Bool) → Bool
any zero f = false
any (suc n) f = any n f || f n

-- how many numbers below n pass f
unfoldable pub count : ℕ → (ℕ → Bool) → ℕ
count zero f = 0
count (suc n) f = count n f + cond (f n) 1 0

-- how many pairs of a number below n and one below k pass f
unfoldable pub count_pairs : ℕ → ℕ → (ℕ → ℕ → Bool) → ℕ
count_pairs zero k f = 0
count_pairs (suc n) k f = count_pairs n k f + count k (f n)

-- the least number below n that passes f, and n where none does
unfoldable pub first : ℕ → (ℕ → Bool) → ℕ
first zero f = 0
first (suc n) f = cond (any n f) (first n f) (cond (f n) n (suc n))

none_below : {k : ℕ} → k < 0 → ⊥
none_below l = omega arith

pub every-at : (n : ℕ) (f : ℕ → Bool) → every n f ≡ true → (k : ℕ) → k < n → f k ≡ true
unfolding every
every-at zero f h k l = absurd (none_below l)
every-at (suc n) f h k l = let b = and_both (every n f) (f n) h in go b.1 (every-at n f b.0 k) (ℕ_discrete k n)
  where
    go : f n ≡ true → (k < n → f k ≡ true) → Dec (k ≡ n) → f k ≡ true
    go h r (yes q) = ap f q ∙ h
    go h r (no q) = r (omega arith)

pub any_at : (n : ℕ) (f : ℕ → Bool) → any n f ≡ true → (k : ℕ) × (k < n) × (f k ≡ true)
unfolding any
any_at zero f h = absurd (bad (cc))
any_at (suc n) f h = elim (or_cases (any n f) (f n) h) [ inl g ↦ more (any_at n f g) | inr g ↦ (n, omega arith, g) ]
  where
    more : (k : ℕ) × (k < n) × (f k ≡ true) → (k : ℕ) × (k < suc n) × (f k ≡ true)
    more r = let l = r.1 in (r.0, omega arith, r.2)

pub at-any : (n : ℕ) (f : ℕ → Bool) (k : ℕ) → k < n → f k ≡ true → any n f ≡ true
unfolding any
at-any zero f k l h = absurd (none_below l)
at-any (suc n) f k l h = go (λ l. at-any n f k l h) (ℕ_discrete k n)
  where
    go : (k < n → any n f ≡ true) → Dec (k ≡ n) → (any n f || f n) ≡ true
    go r (yes q) = or_right (any n f) (f n) (ap f (sym q) ∙ h)
    go r (no q) = or_left (any n f) (f n) (r (omega arith))

-- the turn of a loop that asks all
pub any_next : (n : ℕ) (f : ℕ → Bool) → any (n + 1) f ≡ (any n f || f n)
unfolding any
any_next n f = rw (add-one n, any)

-- the turn of one that ends with the first that passes
pub any-more : (n : ℕ) (f : ℕ → Bool) → any n f ≡ false → f n ≡ false → any (n + 1) f ≡ false
any-more n f h g = rw (any_next n f, h, g)

pub none_passes : (n : ℕ) (f : ℕ → Bool) → any n f ≡ false → (k : ℕ) → k < n → f k ≡ false
none_passes n f h k l = false-if (λ g. clash (at-any n f k l g) h)

pub any_none : (n : ℕ) (f : ℕ → Bool) → ((k : ℕ) → k < n → f k ≡ false) → any n f ≡ false
unfolding any
any_none zero f h = refl
any_none (suc n) f h = rw (any_none n f (λ k l. h k (omega arith)), h n (omega arith))

pub any-or : (n : ℕ) (f g : ℕ → Bool) → any n (λ k. f k || g k) ≡ (any n f || any n g)
any-or n f g = same_truth _ _
    (λ h. let (k, l, p) = any_at n (λ k. f k || g k) h in
    ⊎_elim (λ q. or_left (any n f) (any n g) (at-any n f k l q)) (λ q. or_right (any n f) (any n g) (at-any n g k l q)) (or_cases (f k) (g k) p))
    (λ h. ⊎_elim
    (λ a. let (k, l, p) = any_at n f a in at-any n (λ k. f k || g k) k l (or_left (f k) (g k) p))
    (λ a. let (k, l, p) = any_at n g a in at-any n (λ k. f k || g k) k l (or_right (f k) (g k) p))
    (or_cases (any n f) (any n g) h))

pub any_same : (n : ℕ) (f g : ℕ → Bool) → ((k : ℕ) → k < n → f k ≡ g k) → any n f ≡ any n g
unfolding any
any_same zero f g h = refl
any_same (suc n) f g h = rw (any_same n f g (λ k l. h k (omega arith)), h n (omega arith))

pub first-same : (n : ℕ) (f g : ℕ → Bool) → ((k : ℕ) → f k ≡ g k) → first n f ≡ first n g
unfolding first
first-same zero f g h = refl
first-same (suc n) f g h = rw (any_same n f g (λ k l. h k), first-same n f g h, h n)

-- the first that passes, where some one does, is below n and passes
pub first_passes : (n : ℕ) (f : ℕ → Bool) → any n f ≡ true → (first n f < n) × (f (first n f) ≡ true)
unfolding any first
first_passes zero f h = absurd (bad (cc))
first_passes (suc n) f h = go (truth (any n f)) (λ g. first_passes n f g) (truth (f n))
  where
    go : (any n f ≡ true) ⊎ (any n f ≡ false) → (any n f ≡ true → (first n f < n) × (f (first n f) ≡ true)) → (f n ≡ true) ⊎ (f n ≡ false)
        → (cond (any n f) (first n f) (cond (f n) n (suc n)) < suc n) × (f (cond (any n f) (first n f) (cond (f n) n (suc n))) ≡ true)
    go (inl g) r p = rw g (let b = r g in let l = b.0 in (omega arith, b.1))
    go (inr g) r (inl p) = rw (g, p) (omega arith, p)
    go (inr g) r (inr p) = absurd (bad (cc))

-- none before it does
pub first-least : (n : ℕ) (f : ℕ → Bool) (k : ℕ) → k < first n f → f k ≡ false
unfolding first
first-least zero f k l = absurd (none_below l)
first-least (suc n) f k l = go (truth (any n f)) (truth (f n)) (ℕ_discrete k n) (first-least n f k) l
  where
    go : (any n f ≡ true) ⊎ (any n f ≡ false) → (f n ≡ true) ⊎ (f n ≡ false) → Dec (k ≡ n) → (k < first n f → f k ≡ false)
        → k < cond (any n f) (first n f) (cond (f n) n (suc n)) → f k ≡ false
    go (inl g) p d r l = r (rw g at l)
    go (inr g) (inl p) d r l = none_passes n f g k (rw (g, p) at l)
    go (inr g) (inr p) (yes q) r l = ap f q ∙ p
    go (inr g) (inr p) (no q) r l = let below : k < suc n = rw (g, p) at l in none_passes n f g k (omega arith)

-- one that passes, and none before it does, is the first
pub first-is : (n : ℕ) (f : ℕ → Bool) (k : ℕ) → k < n → f k ≡ true → any k f ≡ false → first n f ≡ k
first-is n f k l p h = go (dec_lt k (first n f)) (dec_lt (first n f) k) (first_passes n f (at-any n f k l p))
  where
    go : Dec (k < first n f) → Dec (first n f < k) → (first n f < n) × (f (first n f) ≡ true) → first n f ≡ k
    go (yes a) b c = absurd (clash p (first-least n f k a))
    go (no a) (yes b) c = absurd (clash c.1 (none_passes k f h (first n f) b))
    go (no a) (no b) c = omega arith

pub count_most : (n : ℕ) (f : ℕ → Bool) → count n f ≤ n
unfolding count
count_most zero f = omega arith
count_most (suc n) f = go (count_most n f) (f n)
  where
    go : count n f ≤ n → (b : Bool) → count n f + cond b 1 0 ≤ suc n
    go h true = omega arith
    go h false = omega arith

-- the turn of a loop that counts
pub count-more : (n : ℕ) (f : ℕ → Bool) → count (n + 1) f ≡ count n f + cond (f n) 1 0
unfolding count
count-more n f = rw (add-one n, count)

pub count-pairs-more : (n k : ℕ) (f : ℕ → ℕ → Bool) → count_pairs (n + 1) k f ≡ count_pairs n k f + count k (f n)
unfolding count_pairs
count-pairs-more n k f = rw (add-one n, count_pairs)

-- one that passes is counted
pub count-one : (n : ℕ) (f : ℕ → Bool) (k : ℕ) → k < n → f k ≡ true → 1 ≤ count n f
unfolding count
count-one zero f k l h = absurd (none_below l)
count-one (suc n) f k l h = go (λ l. count-one n f k l h) (ℕ_discrete k n)
  where
    last : k ≡ n → ◌≡◌ {A = ℕ} (cond (f n) 1 0) 1
    last e = rw (ap f (sym e) ∙ h)

    go : (k < n → 1 ≤ count n f) → Dec (k ≡ n) → 1 ≤ count n f + cond (f n) 1 0
    go r (yes x) = omega (arith, last x)
    go r (no x) = omega (arith, r (omega arith))

-- two different numbers that pass are two
pub count-two : (n : ℕ) (f : ℕ → Bool) (j k : ℕ) → j < n → k < n → j ≢ k → f j ≡ true → f k ≡ true → 2 ≤ count n f
unfolding count
count-two zero f j k a b d p q = absurd (none_below a)
count-two (suc n) f j k a b d p q = go (λ a b. count-two n f j k a b d p q) (ℕ_discrete j n) (ℕ_discrete k n)
  where
    last : (i : ℕ) → i ≡ n → f i ≡ true → ◌≡◌ {A = ℕ} (cond (f n) 1 0) 1
    last i e h = rw (ap f (sym e) ∙ h)

    go : (j < n → k < n → 2 ≤ count n f) → Dec (j ≡ n) → Dec (k ≡ n) → 2 ≤ count n f + cond (f n) 1 0
    go r (yes x) (yes y) = absurd (d (x ∙ sym y))
    go r (yes x) (no y) = omega (arith, last j x p, count-one n f k (omega arith) q)
    go r (no x) (yes y) = omega (arith, last k y q, count-one n f j (omega arith) p)
    go r (no x) (no y) = omega (arith, r (omega arith) (omega arith))

pub count_none : (n : ℕ) (f : ℕ → Bool) → ((k : ℕ) → k < n → f k ≡ false) → count n f ≡ 0
unfolding count
count_none zero f h = refl
count_none (suc n) f h = rw (count_none n f (λ k l. h k (omega arith)), h n (omega arith))

-- where something is counted, some number passes
pub count-some : (n : ℕ) (f : ℕ → Bool) → 1 ≤ count n f → any n f ≡ true
count-some n f h = elim (truth (any n f)) [ inl g ↦ g | inr g ↦ absurd (empty (count_none n f (none_passes n f g))) ]
  where
    empty : count n f ≡ 0 → ⊥
    empty e = omega arith

-- the only number that passes counts one
pub count-only : (n : ℕ) (f : ℕ → Bool) (k : ℕ) → k < n → f k ≡ true → ((j : ℕ) → j < n → f j ≡ true → j ≡ k) → count n f ≡ 1
unfolding count
count-only zero f k l h only = absurd (none_below l)
count-only (suc n) f k l h only = go (λ l. count-only n f k l h (λ j m p. only j (omega arith) p)) (ℕ_discrete k n)
  where
    last : k ≡ n → ◌≡◌ {A = ℕ} (cond (f n) 1 0) 1
    last e = rw (ap f (sym e) ∙ h)

    before : k ≡ n → (j : ℕ) → j < n → f j ≡ false
    before e j m = false-if (λ p. clash-lt (only j (omega arith) p))
      where
        clash-lt : j ≡ k → ⊥
        clash-lt q = omega arith

    after : (k ≡ n → ⊥) → ◌≡◌ {A = ℕ} (cond (f n) 1 0) 0
    after d = rw (false-if {b = f n} (λ p. d (sym (only n (omega arith) p))))

    go : (k < n → count n f ≡ 1) → Dec (k ≡ n) → count n f + cond (f n) 1 0 ≡ 1
    go r (yes e) = omega (arith, count_none n f (before e), last e)
    go r (no d) = omega (arith, r (omega arith), after d)
