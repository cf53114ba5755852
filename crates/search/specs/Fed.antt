-- Masks that come along edges, once: what some nodes have comes to the nodes to which their edges lead.
-- Assumes nothing.
use Rattle.std.specs.Prelude.{◌≡◌, ◌⊎◌, List, ℕ, ◌^◌, ◌<◌, length, get_or}
use Rattle.lists.specs.Mask.{Has, Sub, Mask}
use Rattle.search.specs.Steps.{Leads}

-- An edge leads to y from a node that has bit b.
pub record Via (L : ℕ → ℕ → Type 0) (from : List ℕ) (y b : ℕ) : Type 0 where
  pub node : ℕ
  pub edge : L node y
  pub bit : Has (get_or from node 0) b

-- The masks s become t: each node has what it had, and what `from` has at the other ends of the edges of L that come to it.
pub record Fed (L : ℕ → ℕ → Type 0) (from s t : List ℕ) : Type 0 where
  pub long : length t ≡ length s
  pub low : (k : ℕ) → ((x : ℕ) → get_or from x 0 < 2 ^ k) → ((y : ℕ) → get_or s y 0 < 2 ^ k) → (y : ℕ) → get_or t y 0 < 2 ^ k
  pub keep : (y : ℕ) → Sub (get_or s y 0) (get_or t y 0)
  pub all : (x y : ℕ) → L x y → Sub (get_or from x 0) (get_or t y 0)
  pub only : (y b : ℕ) → Has (get_or t y 0) b → Has (get_or s y 0) b ⊎ Via L from y b

-- The bits of the first n sources stand at the nodes to which their edges lead.
pub record Sowed (values places sources : List ℕ) (n : ℕ) (masks : List ℕ) : Type 0 where
  pub long : length masks ≡ 192
  pub mask : (y : ℕ) → Mask (λ b. Leads values places (get_or sources b 0) y) n (get_or masks y 0)

-- Each of the first n sources has its own bit at its node.
pub record Owned (sources : List ℕ) (n : ℕ) (own : List ℕ) : Type 0 where
  pub long : length own ≡ 192
  pub low : (x : ℕ) → get_or own x 0 < 2 ^ n
  pub only : (x b : ℕ) → Has (get_or own x 0) b → get_or sources b 0 ≡ x
  pub all : (b : ℕ) → b < n → Has (get_or own (get_or sources b 0) 0) b

-- The numbers of the first `total` nodes of a list become v, and the others stay.
pub record Stored (v : ℕ) (nodes : List ℕ) (total : ℕ) (old new : List ℕ) : Type 0 where
  pub at : (b : ℕ) → b < total → get_or new (get_or nodes b 0) 0 ≡ v
  pub rest : (y : ℕ) → ((b : ℕ) → b < total → get_or nodes b 0 ≡ y → ⊥) → get_or new y 0 ≡ get_or old y 0
