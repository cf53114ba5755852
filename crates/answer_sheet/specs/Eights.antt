-- Numbers below 8 by sets of their bits, and the table and the covers by which they are written eight at a time.
-- Assumes nothing.
use Rattle.std.specs.Prelude.{◌≡◌, cond, List, ℕ, ◌+◌, ◌*◌, ◌-◌, ◌/◌, ◌%◌, ◌^◌, ◌<◌, eqb, length, get_or}
use Rattle.answer_sheet.specs.Fan.{fan}
use Rattle.answer_sheet.specs.declared.eights.Planes.{Planes}

-- For every byte the word whose byte k is its bit k.
pub record Spread (table : List ℕ) : Type 0 where
  pub at : (b : ℕ) → b < 256 → get_or table b 0 ≡ fan (λ k. b / 2 ^ k % 2) 8

-- What an entry is where its node is not closed; it is 255 where it is.
unfoldable pub covered : List ℕ → ℕ → ℕ → ℕ
covered closed x answer = cond (eqb (get_or closed x 0) 0) answer 255

-- For each eight nodes the bytes that cover the entries of the closed ones.
pub record Fence (closed fence : List ℕ) : Type 0 where
  pub at : (k : ℕ) → k < 24 → get_or fence k 0 ≡ fan (λ i. cond (eqb (get_or closed (8 * k + i) 0) 0) 0 255) 8

-- The number of node j.
unfoldable pub digit : Planes → ℕ → ℕ
digit p j = (1 - p.both / 2 ^ j % 2) + p.odd / 2 ^ j % 2 + 2 * (p.twos / 2 ^ j % 2) + 4 * (p.fours / 2 ^ j % 2)

-- The entries of a row before this one are as they were.
abbrev pub KeptBelow : ℕ → List ℕ → List ℕ → Type 0
KeptBelow at old new = (x : ℕ) → x < at → get_or new x 0 ≡ get_or old x 0

-- From this entry on stand the bytes of a word, lowest first.
abbrev pub PutBytes : ℕ → ℕ → List ℕ → List ℕ → Type 0
PutBytes word at old new = (length new ≡ 192) × ((k : ℕ) → k < 8 → get_or new (at + k) 0 ≡ word / 2 ^ (8 * k) % 256) × KeptBelow at old new

-- From entry 64 * w on stand 64 numbers, those of closed nodes covered.
abbrev pub PutNumbers : (ℕ → ℕ) → ℕ → List ℕ → List ℕ → List ℕ → Type 0
PutNumbers number w fence old new =
    (length new ≡ 192) × ((closed : List ℕ) → Fence closed fence → (j : ℕ) → j < 64 → get_or new (64 * w + j) 0 ≡ covered closed (64 * w + j) (number j))
    × KeptBelow (64 * w) old new

-- It is 0 or 1 for all of them.
pub record Plain (p : Planes) : Type 0 where
  pub odd : p.odd ≡ 0
  pub twos : p.twos ≡ 0
  pub fours : p.fours ≡ 0
