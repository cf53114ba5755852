-- A byte for each construct, by masks.
-- Assumes nothing.
use Rattle.std.specs.Prelude.{◌≡◌, cond, List, ℕ, ◌≤◌, ◌<◌, length, get_or}
use Rattle.lists.specs.Bits.{has}

unfoldable pub byte_by : ℕ → ℕ → ℕ → ℕ → ℕ
byte_by criticals ever needed c = cond (has criticals c) (cond (has needed c) 0 (cond (has ever c) 1 2)) 255

-- The bytes of the first n constructs stand at the front, and the rest stays.
pub record Put (criticals ever needed n : ℕ) (old new : List ℕ) : Type 0 where
  pub long : length new ≡ length old
  pub at : (c : ℕ) → c < n → get_or new c 0 ≡ byte_by criticals ever needed c
  pub past : (c : ℕ) → n ≤ c → get_or new c 0 ≡ get_or old c 0
