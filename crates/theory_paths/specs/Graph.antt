-- A graph given as two lists, an edge from each key to its value, and the places where the edges of each key begin where the keys rise.
-- Assumes nothing.
use Rattle.std.specs.Prelude.{◌≡◌, Bool, List, ℕ, ◌+◌, ◌≤◌, ◌<◌, ltb, eqb, get_or, length}
use Rattle.lists.specs.Range.{count}

-- An edge leads from x to y: one of the first e.
pub record Listed (keys values : List ℕ) (e x y : ℕ) : Type 0 where
  pub at : ℕ
  pub below : at < e
  pub key : get_or keys at 0 ≡ x
  pub value : get_or values at 0 ≡ y

-- The keys that are x, and those below x.
abbrev pub equal : List ℕ → ℕ → ℕ → Bool
equal keys x i = eqb (get_or keys i 0) x

abbrev pub lower : List ℕ → ℕ → ℕ → Bool
lower keys x i = ltb (get_or keys i 0) x

-- Keys that rise.
abbrev pub Rising : List ℕ → ℕ → Type 0
Rising keys e = (i j : ℕ) → i ≤ j → j < e → get_or keys i 0 ≤ get_or keys j 0

-- Where the edges of each node end, told at the node after it, for keys that rise. A node that has no edges may be told less.
pub record Ends (keys : List ℕ) (e : ℕ) (ends : List ℕ) : Type 0 where
  pub long : length ends ≡ 193
  pub first : get_or ends 0 0 ≡ 0
  pub most : (x : ℕ) → x < 192 → get_or ends (x + 1) 0 ≤ count e (lower keys (x + 1))
  pub at : (x i : ℕ) → x < 192 → i < e → get_or keys i 0 ≡ x → get_or ends (x + 1) 0 ≡ count e (lower keys (x + 1))

-- For each node the place where its edges begin: the number of edges that leave lower nodes. Where they end, those of the next node begin.
pub record Places (keys : List ℕ) (e : ℕ) (places : List ℕ) : Type 0 where
  pub long : length places ≡ 193
  pub at : (x : ℕ) → x ≤ 192 → get_or places x 0 ≡ count e (lower keys x)
