-- Masks that are passed on by nodes that wait: what one step does to its variables, the masks s, the marks h of the nodes that are held, and
-- the ring q with its n entries from head on; and the edges of each node, linked from the last one back.
-- Assumes nothing.
use Rattle.std.specs.Prelude.{◌≡◌, ◌⊎◌, List, ℕ, ◌+◌, ◌-◌, ◌%◌, ◌≤◌, ◌<◌, get_or, set, length}
use Rattle.std.specs.Int.Bits.{bit_or}
use Rattle.lists.specs.Mask.{Sub}
use Rattle.lists.specs.Store.{filled}
use Rattle.search.specs.Sweep.{Carried}

-- The places up to u, and those from a up to b.
abbrev pub Upto : ℕ → ℕ → ℕ → ℕ → Type 0
Upto u a b j = (j < u) ⊎ ((a ≤ j) × (j < b))

-- The edges at places with P are linked by the nodes that they leave: `last` has one more than the place of a node's last edge, `before` one
-- more than the place of the edge before an edge, 0 where there is none.
pub record Linked (keys : List ℕ) (P : ℕ → Type 0) (last before : List ℕ) : Type 0 where
  pub long-last : length last ≡ 192
  pub long-before : length before ≡ 1024
  pub most : (x : ℕ) → get_or last x 0 ≤ 1024
  pub back : (j : ℕ) → get_or before j 0 ≤ j
  pub last-own : (x : ℕ) → 0 < get_or last x 0 → P (get_or last x 0 - 1) × (get_or keys (get_or last x 0 - 1) 0 ≡ x)
  pub last-all : (j : ℕ) → P j → j < get_or last (get_or keys j 0) 0
  pub before-own : (j : ℕ) → P j → 0 < get_or before j 0 → P (get_or before j 0 - 1) × (get_or keys (get_or before j 0 - 1) 0 ≡ get_or keys j 0)
  pub before-all : (i j : ℕ) → P i → P j → i < j → get_or keys i 0 ≡ get_or keys j 0 → i < get_or before j 0

-- The edges from place a up to place b are linked as well.
abbrev pub Links : List ℕ → ℕ → ℕ → List ℕ → List ℕ → List ℕ → List ℕ → Type 0
Links keys a b last before last' before' = (u : ℕ) → u ≤ a → Linked keys (Upto u a a) last before → Linked keys (Upto u a b) last' before'

-- The lists are as long as in the code, and the ring has no more entries than nodes are held.
pub record Fits (s h q : List ℕ) (head n : ℕ) : Type 0 where
  pub masks : length s ≡ 192
  pub held : length h ≡ 192
  pub ring : length q ≡ 256
  pub first : head < 256
  pub room : n ≤ filled h

-- Every node is held, and the ring has all of them.
pub record Full (h q : List ℕ) : Type 0 where
  pub held : length h ≡ 192
  pub ring : length q ≡ 256
  pub all : 192 ≤ filled h
  pub entries : (i : ℕ) → i < 192 → get_or q i 0 ≡ i

-- The bits come to node y. There is nothing new; or y waits already; or it enters the ring.
pub data Visited (bits y head : ℕ) (s h q : List ℕ) (n : ℕ) : List ℕ → List ℕ → List ℕ → ℕ → Type 0 where
  same : bit_or (get_or s y 0) bits ≡ get_or s y 0 → Visited bits y head s h q n s h q n
  kept : (bit_or (get_or s y 0) bits ≡ get_or s y 0 → ⊥) → (get_or h y 0 ≡ 0 → ⊥) → Visited bits y head s h q n (set s y (bit_or (get_or s y 0) bits)) h q n
  fresh : (bit_or (get_or s y 0) bits ≡ get_or s y 0 → ⊥) → get_or h y 0 ≡ 0
      → Visited bits y head s h q n (set s y (bit_or (get_or s y 0) bits)) (set h y 1) (set q ((head + n) % 256) y) (n + 1)

-- The bits come to the nodes to which the edges lead, from the one whose place is one less than `first` back to the one that j tells.
pub data Walk (values before : List ℕ) (bits head first : ℕ) (s h q : List ℕ) (n : ℕ) : ℕ → List ℕ → List ℕ → List ℕ → ℕ → Type 0 where
  none : Walk values before bits head first s h q n first s h q n
  more : {j : ℕ} {s₁ h₁ q₁ : List ℕ} {n₁ : ℕ} {s₂ h₂ q₂ : List ℕ} {n₂ : ℕ} → 0 < j → Walk values before bits head first s h q n j s₁ h₁ q₁ n₁
      → Visited bits (get_or values (j - 1) 0) head s₁ h₁ q₁ n₁ s₂ h₂ q₂ n₂ → n₂ ≤ filled h₂
      → Walk values before bits head first s h q n (get_or before (j - 1) 0) s₂ h₂ q₂ n₂

-- the i-th node of the ring
abbrev pub entry : List ℕ → ℕ → ℕ → ℕ
entry q head i = get_or q ((head + i) % 256) 0

-- x stands in the ring
pub record Waits (q : List ℕ) (head n x : ℕ) : Type 0 where
  pub at : ℕ
  pub below : at < n
  pub is : entry q head at ≡ x

-- Between the turns, once the masks were s₀: the nodes that are held stand in the ring, whose entries are nodes; every other node but those with
-- X has passed its mask on.
pub record Waiting (L : ℕ → ℕ → Type 0) (X : ℕ → Type 0) (s₀ : List ℕ) (head : ℕ) (s h q : List ℕ) (n : ℕ) : Type 0 where
  pub fits : Fits s h q head n
  pub bound : (y : ℕ) → get_or s y 0 < 18446744073709551616
  pub carried : Carried bit_or L s₀ s
  pub node : (i : ℕ) → i < n → entry q head i < 192
  pub waits : (x : ℕ) → (get_or h x 0 ≡ 0 → ⊥) → Waits q head n x
  pub done : (x : ℕ) → (X x → ⊥) → get_or h x 0 ≡ 0 → (y : ℕ) → L x y → Sub (get_or s x 0) (get_or s y 0)
