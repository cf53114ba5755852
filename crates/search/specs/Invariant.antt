-- What holds between the steps of the search for levels: of the levels d and of the queue q with its end n. Marks tell the stops.
-- Assumes nothing.
use Rattle.std.specs.Prelude.{◌≡◌, List, ℕ, ◌+◌, ◌≤◌, ◌<◌, get_or}
use Rattle.theory_paths.specs.Found.{Clear, ReachedIn}
use Rattle.search.specs.Steps.{Room}

-- the level of the i-th node in the queue
abbrev pub level_at : List ℕ → List ℕ → ℕ → ℕ
level_at d q i = get_or d (get_or q i 0) 0

-- x stands in the queue
pub record Waits (q : List ℕ) (n x : ℕ) : Type 0 where
  pub at : ℕ
  pub below : at < n
  pub is : get_or q at 0 ≡ x

-- A level is the number of edges of a path, as S tells. The nodes that have one and are no stops are those of the queue, where levels
-- do not fall and none is over v, nor higher than entries before it allow: it fits a byte.
pub record Queued (S : ℕ → ℕ → Type 0) (marks : List ℕ) (v : ℕ) (d q : List ℕ) (n : ℕ) : Type 0 where
  pub room : Room d q n
  pub free : (y : ℕ) → get_or d y 0 ≡ 0 → Clear marks y
  pub path : (y : ℕ) → Clear marks y → 0 < get_or d y 0 → S (get_or d y 0) y
  pub waits : (y : ℕ) → Clear marks y → 0 < get_or d y 0 → Waits q n y
  pub node : (i : ℕ) → i < n → get_or q i 0 < 192
  pub clear : (i : ℕ) → i < n → Clear marks (get_or q i 0)
  pub some : (i : ℕ) → i < n → 0 < level_at d q i
  pub order : (i j : ℕ) → i ≤ j → j < n → level_at d q i ≤ level_at d q j
  pub most : (i : ℕ) → i < n → level_at d q i ≤ v
  pub short : (i : ℕ) → i < n → level_at d q i ≤ i + 1

-- Each node to which an edge of x leads, and which is no stop, has a level, and at most w.
abbrev pub Spent : (ℕ → ℕ → Type 0) → List ℕ → List ℕ → ℕ → ℕ → Type 0
Spent E marks d w x = (y : ℕ) → E x y → Clear marks y → (0 < get_or d y 0) × (get_or d y 0 ≤ w)

-- The whole, when the first b of the k sources and the first `head` nodes of the queue have been gone on from. The entries that are left
-- have v or one less.
pub record State (E : ℕ → ℕ → Type 0) (marks sources : List ℕ) (k b v head : ℕ) (d q : List ℕ) (n : ℕ) : Type 0 where
  pub queued : Queued (ReachedIn E (Clear marks) sources k) marks v d q n
  pub first : (c : ℕ) → c < b → Spent E marks d 1 (get_or sources c 0)
  pub done : (i : ℕ) → i < head → Spent E marks d (level_at d q i + 1) (get_or q i 0)
  pub left : (i : ℕ) → head ≤ i → i < n → v ≤ level_at d q i + 1
  pub within : head ≤ n
