-- A row that was cleared and is walked from access to access.
-- Assumes nothing.
use Rattle.std.specs.Prelude.{◌≡◌, List, ℕ, ◌+◌, ◌≤◌, ◌<◌, get_or}

-- The walk of row i, of n accesses, has come to access m: the bytes before it are there, and those from it on are 0.
pub record Walked (f : ℕ → ℕ) (n i m : ℕ) (out : List ℕ) : Type 0 where
  pub done : (x : ℕ) → i + x < m → i + x < n → get_or out x 0 ≡ f x
  pub rest : (x : ℕ) → m ≤ i + x → get_or out x 0 ≡ 0
