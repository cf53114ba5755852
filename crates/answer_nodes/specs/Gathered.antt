-- For each bit of the nodes' masks the set of the nodes that have it.
-- Assumes nothing.
use Rattle.std.specs.Prelude.{◌≡◌, Bool, ◌&&◌, cond, List, ℕ, ◌+◌, ◌^◌, ◌≤◌, ◌<◌, eqb, get_or}
use Rattle.std.specs.Int.Bits.{bit_or}
use Rattle.lists.specs.Mask.{mask_of}
use Rattle.lists.specs.Bits.{has}
use Rattle.answer_constructs.specs.declared.mask_table.MaskTable.{MaskTable}

-- Node first + j is not closed, and its mask has bit b.
abbrev pub having : List ℕ → List ℕ → ℕ → ℕ → ℕ → Bool
having closed masks first b j = eqb (get_or closed (first + j) 0) 0 && has (get_or masks (first + j) 0) b

-- No mask has a bit from entry n on.
abbrev pub Past : ℕ → List ℕ → Type 0
Past n masks = (x : ℕ) → n ≤ x → x < 192 → get_or masks x 0 ≡ 0

-- Nor has one of any kind.
pub record RowsPast (n : ℕ) (marks : MaskTable) : Type 0 where
  pub starts : Past n marks.starts
  pub ends : Past n marks.ends
  pub held : Past n marks.held

-- For each bit the nodes from `first` on, 64 of them, that have it.
pub record Gathered (closed masks : List ℕ) (first : ℕ) (sets : List ℕ) : Type 0 where
  pub at : (b : ℕ) → b < 64 → get_or sets b 0 ≡ mask_of (having closed masks first b) 64

-- The set of bit b once this run is added.
abbrev pub pending : List ℕ → ℕ → ℕ → ℕ → ℕ
pending sets mask set b = cond (has mask b) (bit_or (get_or sets b 0) set) (get_or sets b 0)

-- Node j is in the sets of the bits of its mask besides, unless it is closed.
abbrev pub Taken : ℕ → ℕ → ℕ → (ℕ → ℕ) → (ℕ → ℕ) → Type 0
Taken closed mask j old new = (b : ℕ) → b < 64 → new b ≡ cond (eqb closed 0 && has mask b) (bit_or (2 ^ j) (old b)) (old b)
