-- Levels as they begin, as they are told, and masks that they tell.
-- Assumes nothing.
use Rattle.std.specs.Prelude.{◌≡◌, List, ℕ, ◌≤◌, ◌<◌, length, get_or}

-- Each of the 192 numbers of t stands to that of s, at its place, as T says.
pub record Each (T : ℕ → ℕ → Type 0) (s t : List ℕ) : Type 0 where
  pub long : length t ≡ 192
  pub at : (y : ℕ) → y < 192 → T (get_or s y 0) (get_or t y 0)

-- A level to start from: 1 where the mask has a bit, 254 for none.
abbrev pub Begins : ℕ → ℕ → Type 0
Begins mask level = (mask ≡ 0 → level ≡ 254) × ((mask ≡ 0 → ⊥) → level ≡ 1)

-- A level as it is told: 0 for none.
abbrev pub Tells : ℕ → ℕ → Type 0
Tells level told = (level < 254 → told ≡ level) × (254 ≤ level → told ≡ 0)

-- A mask that a level tells, where all paths begin at the first source: that source's bit, 0 for no level.
abbrev pub Shows : ℕ → ℕ → Type 0
Shows level mask = (level ≡ 0 → mask ≡ 0) × ((level ≡ 0 → ⊥) → mask ≡ 1)
