-- Sets by bit: a set added to those of the bits of a mask, and the union of those of the bits of a mask.
-- Assumes nothing.
use Rattle.std.specs.Prelude.{◌≡◌, cond, List, ℕ, ◌<◌, length, get_or}
use Rattle.std.specs.Int.Bits.{bit_or}
use Rattle.lists.specs.Mask.{Has, Sub}
use Rattle.lists.specs.Bits.{has}

-- The set is added for each bit of the mask.
pub record Added (old : List ℕ) (mask set : ℕ) (new : List ℕ) : Type 0 where
  pub long : length new ≡ 64
  pub at : (b : ℕ) → b < 64 → get_or new b 0 ≡ cond (has mask b) (bit_or (get_or old b 0) set) (get_or old b 0)

-- The union, over the bits of the mask, of their sets.
pub record Joined (mask : ℕ) (sets : List ℕ) (union : ℕ) : Type 0 where
  pub only : (i : ℕ) → Has union i → (b : ℕ) × ((b < 64) × (Has mask b × Has (get_or sets b 0) i))
  pub all : (b : ℕ) → Has mask b → Sub (get_or sets b 0) union
