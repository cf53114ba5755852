-- What one step of the search for levels does to its variables: the levels d, 0 for none, and the queue q with its end n.
-- Assumes nothing.
use Rattle.std.specs.Prelude.{◌≡◌, List, ℕ, ◌+◌, ◌≤◌, ◌<◌, get_or, set, length}
use Rattle.lists.specs.Store.{filled}

-- An edge leads from x to y: one of those at the places of x.
pub record Leads (values places : List ℕ) (x y : ℕ) : Type 0 where
  pub at : ℕ
  pub from : get_or places x 0 ≤ at
  pub below : at < get_or places (x + 1) 0
  pub value : get_or values at 0 ≡ y

-- A table keeps within bounds: edges lead to nodes, and those of a node stand in the table.
pub record Bounded (values places : List ℕ) : Type 0 where
  pub node : (j : ℕ) → get_or values j 0 < 192
  pub place : (x : ℕ) → x < 192 → (get_or places x 0 ≤ get_or places (x + 1) 0) × (get_or places (x + 1) 0 ≤ 1024)

-- The lists are as long as in the code, and the queue has no more entries than nodes have a level or a mark.
pub record Room (d q : List ℕ) (n : ℕ) : Type 0 where
  pub levels : length d ≡ 192
  pub queue : length q ≡ 256
  pub few : n ≤ filled d

-- An edge leads to y, at level v. It is written behind the queue's end; if it had no level it gets this one, and joins the queue.
pub data Visited (y v : ℕ) (d q : List ℕ) (n : ℕ) : List ℕ → List ℕ → ℕ → Type 0 where
  known : 0 < get_or d y 0 → Visited y v d q n (set d y (get_or d y 0)) (set q n y) n
  fresh : get_or d y 0 ≡ 0 → Visited y v d q n (set d y v) (set q n y) (n + 1)

-- The edges from place a up to place b lead to their nodes, one after the other, at level v.
pub data Run (values : List ℕ) (v a : ℕ) (d q : List ℕ) (n : ℕ) : ℕ → List ℕ → List ℕ → ℕ → Type 0 where
  none : Run values v a d q n a d q n
  more : {b : ℕ} {d₁ q₁ : List ℕ} {n₁ : ℕ} {d₂ q₂ : List ℕ} {n₂ : ℕ} → Run values v a d q n b d₁ q₁ n₁
      → Visited (get_or values b 0) v d₁ q₁ n₁ d₂ q₂ n₂ → Run values v a d q n (b + 1) d₂ q₂ n₂

-- All edges of x lead to their nodes.
abbrev pub Expanded : List ℕ → List ℕ → ℕ → ℕ → List ℕ → List ℕ → ℕ → List ℕ → List ℕ → ℕ → Type 0
Expanded values places x v d q n = Run values v (get_or places x 0) d q n (get_or places (x + 1) 0)
