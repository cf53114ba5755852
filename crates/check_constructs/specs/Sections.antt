-- Flags on the constructs that are a sections.
-- Assumes nothing.
use Rattle.std.specs.Prelude.{◌≡◌, cond, List, ℕ, ◌≤◌, ◌<◌, eqb, length, get_or}
use Rattle.chart.specs.Format.{Construct, construct_at}
use Rattle.chart.specs.Scope.{sections_byte}

-- Those of the first n constructs, and none past these.
pub record SectionsBelow (constructs : List Construct) (n : ℕ) (flags : List ℕ) : Type 0 where
  pub long : length flags ≡ 256
  pub at : (c : ℕ) → c < n → get_or flags c 0 ≡ cond (eqb (construct_at constructs c).kind sections_byte) 1 0
  pub past : (c : ℕ) → n ≤ c → get_or flags c 0 ≡ 0
