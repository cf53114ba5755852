-- The least of f 0, f 1, .. that is not 0, below a bound; 0 where all are.
-- Assumes nothing.
use Rattle.std.specs.Prelude.{◌≡◌, refl, ℕ, zero, suc, ◌≤◌, ◌<◌, min}
use Rattle.std.proofs.Common.{arith}
use Rattle.std.proofs.Math.Decide.{ℕ_discrete, dec_le}

abbrev pub lesser : ℕ → ℕ → ℕ
lesser zero b = b
lesser (suc a) zero = suc a
lesser (suc a) (suc b) = min (suc a) (suc b)

unfoldable pub least : (ℕ → ℕ) → ℕ → ℕ
least f zero = 0
least f (suc k) = lesser (least f k) (f k)

-- v is one of the numbers, if it is not 0, and none that is not 0 is less
pub record Least (f : ℕ → ℕ) (k v : ℕ) : Type 0 where
  pub one : 0 < v → (b : ℕ) × (b < k) × (f b ≡ v)
  pub below : (b : ℕ) → b < k → 0 < f b → (0 < v) × (v ≤ f b)

pub least-is : (f : ℕ → ℕ) (k : ℕ) → Least f k (least f k)
unfolding least
least-is f zero = record { one = λ h. absurd (omega arith); below = λ b l. absurd (omega arith) }
least-is f (suc k) = go (least f k) (f k) refl (least-is f k)
  where
    earlier : (v : ℕ) → Least f k v → 0 < v → (b : ℕ) × (b < suc k) × (f b ≡ v)
    earlier v i h = let (b, l, q) = i.one h in (b, omega arith, q)

    -- what holds of the last number and of each before it holds of each
    each : (v w : ℕ) → Least f k v → (0 < f k → (0 < w) × (w ≤ f k)) → (0 < v → (0 < w) × (w ≤ v))
        → (b : ℕ) → b < suc k → 0 < f b → (0 < w) × (w ≤ f b)
    each v w i p q b l h = elim (ℕ_discrete b k) [
      | yes e ↦ rw e (p (rw e at h))
      | no e ↦ (let (x, y) = i.below b (omega arith) h in let (c, d) = q x in (c, omega arith))
    ]

    go : (v c : ℕ) → f k ≡ c → Least f k v → Least f (suc k) (lesser v c)
    go zero c e i = record { one = λ h. (k, omega arith, e); below = each zero c i (λ h. (omega arith, omega arith)) (λ h. absurd (omega arith)) }
    go (suc v) zero e i = record { one = earlier (suc v) i; below = each (suc v) (suc v) i (λ h. absurd (omega arith)) (λ h. (omega arith, omega arith)) }
    go (suc v) (suc c) e i = record {
      one = λ h. of (dec_le v c);
      below = each (suc v) (min (suc v) (suc c)) i (λ h. (omega arith, omega arith)) (λ h. (omega arith, omega arith));
    }
      where
        of : Dec (v ≤ c) → (b : ℕ) × (b < suc k) × (f b ≡ min (suc v) (suc c))
        of (yes l) = let (b, m, q) = earlier (suc v) i (omega arith) in (b, m, omega arith)
        of (no l) = (k, omega arith, omega arith)

least-le : (f : ℕ → ℕ) (k v w : ℕ) → Least f k v → Least f k w → v ≤ w
least-le f k v w i j = go (dec_le v w)
  where
    go : Dec (v ≤ w) → v ≤ w
    go (yes l) = l
    go (no l) = zeroed (ℕ_discrete w 0)
      where
        zeroed : Dec (w ≡ 0) → v ≤ w
        zeroed (yes e) = let (b, m, q) = i.one (omega arith) in let (x, y) = j.below b m (omega arith) in omega arith
        zeroed (no e) = let (b, m, q) = j.one (omega arith) in let (x, y) = i.below b m (omega arith) in omega arith

pub least-unique : (f : ℕ → ℕ) (k v : ℕ) → Least f k v → v ≡ least f k
least-unique f k v i = omega (arith, least-le f k v (least f k) i (least-is f k), least-le f k (least f k) v (least-is f k) i)
