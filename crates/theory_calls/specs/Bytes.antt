-- Numbers as bytes, little-endian, and what a write of some of them leaves.
-- Assumes nothing.
use Rattle.std.specs.Prelude.{◌≡◌, ◌⊎◌, List, ℕ, ◌+◌, ◌/◌, ◌%◌, ◌^◌, ◌≤◌, ◌<◌, get_or, length}

-- byte k of m
unfoldable pub byte_of : ℕ → ℕ → ℕ
byte_of m k = m / 256 ^ k % 256

-- The first `many` bytes of m stand from `at` on; every other byte is as it was.
pub record Put (at many m : ℕ) (old new : List ℕ) : Type 0 where
  pub long : length new ≡ length old
  pub put : (k : ℕ) → k < many → get_or new (at + k) 0 ≡ byte_of m k
  pub kept : (j : ℕ) → (j < at) ⊎ (at + many ≤ j) → get_or new j 0 ≡ get_or old j 0
