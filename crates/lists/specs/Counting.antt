-- Laws of `count`: how many numbers below a bound pass a test.
-- Assumes nothing.
use Rattle.std.specs.Prelude.{◌≡◌, refl, Bool, true, false, cond, ℕ, zero, suc, ◌+◌, ◌≤◌, ◌<◌}
use Rattle.std.proofs.Common.{ap, sym, ◌∙◌, arith, add-one}
use Rattle.std.proofs.Math.Decide.{ℕ_discrete}
use Rattle.lists.specs.Truth.{bad}
use Rattle.lists.specs.Range.{count}

-- what one test adds to a count
abbrev pub one : Bool → ℕ
one b = cond b 1 0

one-le : (b : Bool) → one b ≤ 1
one-le true = omega arith
one-le false = omega arith

one-mono : (a b : Bool) → (a ≡ true → b ≡ true) → one a ≤ one b
one-mono true true h = omega arith
one-mono true false h = absurd (bad (cc (h refl)))
one-mono false b h = omega arith

one-back : (a b : Bool) → one b ≤ one a → b ≡ true → a ≡ true
one-back true b h p = refl
one-back false true h p = absurd (omega arith)
one-back false false h p = p

-- one number more
pub count_next : (f : ℕ → Bool) (n : ℕ) → count (n + 1) f ≡ count n f + one (f n)
unfolding count
count_next f n = rw (add-one n)

pub count-hit : (f : ℕ → Bool) (n : ℕ) → f n ≡ true → count (n + 1) f ≡ count n f + 1
count-hit f n h = let p : one (f n) ≡ 1 = ap one h in omega (arith, count_next f n)

pub count-miss : (f : ℕ → Bool) (n : ℕ) → f n ≡ false → count (n + 1) f ≡ count n f
count-miss f n h = let p : one (f n) ≡ 0 = ap one h in omega (arith, count_next f n)

pub count-le : (n : ℕ) (f : ℕ → Bool) → count n f ≤ n
unfolding count
count-le zero f = omega arith
count-le (suc n) f = omega (arith, count-le n f, one-le (f n))

-- a test that passes wherever another does passes at least as often
pub count-mono : (n : ℕ) (f g : ℕ → Bool) → ((k : ℕ) → k < n → f k ≡ true → g k ≡ true) → count n f ≤ count n g
unfolding count
count-mono zero f g h = omega arith
count-mono (suc n) f g h = omega (arith, count-mono n f g (λ k l. h k (omega arith)), one-mono (f n) (g n) (h n (omega arith)))

-- and where it passes no more often, it passes nowhere else
pub count-back : (n : ℕ) (f g : ℕ → Bool) → ((k : ℕ) → k < n → f k ≡ true → g k ≡ true) → count n g ≤ count n f
    → (k : ℕ) → k < n → g k ≡ true → f k ≡ true
unfolding count
count-back zero f g h c k l p = absurd (omega arith)
count-back (suc n) f g h c k l p = go (ℕ_discrete k n)
    (λ l. count-back n f g (λ k l. h k (omega arith)) (omega (arith, one-mono (f n) (g n) (h n (omega arith)))) k l p)
    (one-back (f n) (g n) (omega (arith, count-mono n f g (λ k l. h k (omega arith)))))
  where
    go : Dec (k ≡ n) → (k < n → f k ≡ true) → (g n ≡ true → f n ≡ true) → f k ≡ true
    go (yes q) r s = ap f q ∙ s (ap g (sym q) ∙ p)
    go (no q) r s = r (omega arith)

-- a test that passes as often as there are numbers passes at each, and the other way round
pub count-full : (n : ℕ) (f : ℕ → Bool) → n ≤ count n f → (k : ℕ) → k < n → f k ≡ true
count-full n f h k l = let c = count-le n (λ k. true) in count-back n f (λ k. true) (λ k l p. refl) (omega arith) k l refl

pub count-all : (n : ℕ) (f : ℕ → Bool) → ((k : ℕ) → k < n → f k ≡ true) → count n f ≡ n
unfolding count
count-all zero f h = refl
count-all (suc n) f h = let p : one (f n) ≡ 1 = ap one (h n (omega arith)) in omega (arith, count-all n f (λ k l. h k (omega arith)))

-- where none passes from i on, all that are counted are below i
pub count-rest : (f : ℕ → Bool) (i d : ℕ) → ((k : ℕ) → i ≤ k → k < i + d → f k ≡ false) → count (i + d) f ≡ count i f
count-rest f i zero h = let q : i + 0 ≡ i = omega arith in rw q
count-rest f i (suc d) h =
    let q : i + suc d ≡ i + d + 1 = omega arith in
    rw q (count-miss f (i + d) (h (i + d) (omega arith) (omega arith)) ∙ count-rest f i d (λ k l b. h k l (omega arith)))

-- counting on takes nothing away
pub count-up : (f : ℕ → Bool) (i d : ℕ) → count i f ≤ count (i + d) f
count-up f i zero = let q : i + 0 ≡ i = omega arith in rw q (omega arith)
count-up f i (suc d) = let q : i + suc d ≡ i + d + 1 = omega arith in rw q (omega (arith, count-up f i d, count_next f (i + d)))

-- a test that passes where one of two others does, which never both pass
pub count-sum : (n : ℕ) (f g h : ℕ → Bool) → ((k : ℕ) → k < n → one (h k) ≡ one (f k) + one (g k)) → count n h ≡ count n f + count n g
unfolding count
count-sum zero f g h e = refl
count-sum (suc n) f g h e = omega (arith, count-sum n f g h (λ k l. e k (omega arith)), e n (omega arith))
