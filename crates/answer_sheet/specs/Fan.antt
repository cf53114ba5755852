-- A word by its bytes, lowest first.
-- Assumes nothing.
use Rattle.std.specs.Prelude.{◌≡◌, refl, ℕ, zero, suc, ◌+◌, ◌*◌, ◌-◌, ◌/◌, ◌%◌, ◌^◌, ◌≤◌, ◌<◌}
use Rattle.std.proofs.Common.{ap, ◌∙◌, arith, shr-shr}
use Rattle.std.specs.Int.Bits.{bit_or}
use Rattle.std.proofs.lemmas.Nat.{or_shr, or_mod}

unfoldable pub fan : (ℕ → ℕ) → ℕ → ℕ
fan f zero = 0
fan f (suc n) = f 0 + 256 * fan (λ k. f (suc k)) n

pub fan-same : (f g : ℕ → ℕ) (n : ℕ) → ((k : ℕ) → k < n → f k ≡ g k) → fan f n ≡ fan g n
unfolding fan
fan-same f g zero e = refl
fan-same f g (suc n) e = rw (e 0 (omega arith), fan-same (λ k. f (suc k)) (λ k. g (suc k)) n (λ k l. e (suc k) (omega arith)))

-- a highest byte that is 0
pub fan-top : (f : ℕ → ℕ) (n : ℕ) → f n ≡ 0 → fan f (suc n) ≡ fan f n
unfolding fan
fan-top f zero e = omega arith
fan-top f (suc n) e = omega (arith, fan-top (λ k. f (suc k)) n e)

-- the lowest byte apart
pub fan-front : (f : ℕ → ℕ) (i n : ℕ) → fan (λ k. f (i + k)) (suc n) ≡ f i + 256 * fan (λ k. f (suc i + k)) n
unfolding fan
fan-front f i n =
    let z : i + 0 ≡ i = omega arith in
    let rest = fan-same (λ k. f (i + suc k)) (λ k. f (suc i + k)) n (λ k l. let q : i + suc k ≡ suc i + k = omega arith in ap f q) in
    rw (z, rest)

-- bounds

pub fan-most : (f : ℕ → ℕ) (n m : ℕ) → ((k : ℕ) → f k ≤ m) → fan f n ≤ fan (λ k. m) n
unfolding fan
fan-most f zero m h = omega arith
fan-most f (suc n) m h = omega (arith, h 0, fan-most (λ k. f (suc k)) n m (λ k. h (suc k)))

pub fan-longer : (m n p : ℕ) → n ≤ p → fan (λ k. m) n ≤ fan (λ k. m) p
unfolding fan
fan-longer m zero p l = omega arith
fan-longer m (suc n) zero l = absurd (omega arith)
fan-longer m (suc n) (suc p) l = omega (arith, fan-longer m n p (omega arith))

-- numbers below 8, of which each byte has a bit
pub fan-bits : (b o t f : ℕ → ℕ) (n : ℕ)
    → fan (λ k. (1 - b k) + o k + 2 * t k + 4 * f k) n ≡ fan (λ k. 1 - b k) n + fan o n + 2 * fan t n + 4 * fan f n
unfolding fan
fan-bits b o t f zero = refl
fan-bits b o t f (suc n) = omega (arith, fan-bits (λ k. b (suc k)) (λ k. o (suc k)) (λ k. t (suc k)) (λ k. f (suc k)) n)

pub fan-less : (b : ℕ → ℕ) (n : ℕ) → ((k : ℕ) → b k ≤ 1) → fan (λ k. 1) n - fan b n ≡ fan (λ k. 1 - b k) n
unfolding fan
fan-less b zero h = refl
fan-less b (suc n) h = omega (arith, h 0, fan-less (λ k. b (suc k)) n (λ k. h (suc k)), fan-most (λ k. b (suc k)) n 1 (λ k. h (suc k)))

-- one byte

pub fan-byte : (f : ℕ → ℕ) (n k : ℕ) → ((k : ℕ) → f k < 256) → k < n → fan f n / 2 ^ (8 * k) % 256 ≡ f k
unfolding fan
fan-byte f zero k h l = absurd (omega arith)
fan-byte f (suc n) zero h l = omega (arith, h 0)
fan-byte f (suc n) (suc k) h l =
    let m = fan (λ k. f (suc k)) n in
    let q : 8 * suc k ≡ 8 + 8 * k = omega arith in
    let d : (f 0 + 256 * m) / 2 ^ 8 ≡ m = omega (arith, h 0) in
    rw (q, ← shr-shr (f 0 + 256 * m) 8 (8 * k), d) (fan-byte (λ k. f (suc k)) n k (λ k. h (suc k)) (omega arith))

-- unions, byte by byte
pub fan-or : (f g : ℕ → ℕ) (n k : ℕ) → ((k : ℕ) → f k < 256) → ((k : ℕ) → g k < 256) → k < n
    → bit_or (fan f n) (fan g n) / 2 ^ (8 * k) % 256 ≡ bit_or (f k) (g k)
fan-or f g n k h i l =
    rw (or_shr (fan f n) (fan g n) (8 * k)) (or_mod (fan f n / 2 ^ (8 * k)) (fan g n / 2 ^ (8 * k)) 8 ∙ rw (fan-byte f n k h l, fan-byte g n k i l))
