-- The sets of all nodes that are not closed, by the bits of their masks, and those of them that share a bit with a mask.
-- Assumes nothing.
use Rattle.std.specs.Prelude.{◌≡◌, ◌&&◌, List, [], ℕ, ◌+◌, ◌*◌, ◌<◌, eqb, get_or}
use Rattle.lists.specs.Bits.{has}
use Rattle.lists.specs.Common.{common}
use Rattle.masks.specs.declared.unions.Words.{Words}
use Rattle.answer_nodes.specs.declared.NodeSets.{NodeSets}
use Rattle.answer_nodes.specs.Gathered.{Gathered}
use Rattle.answer_constructs.specs.declared.mask_table.MaskTable.{MaskTable}

-- For each bit of the masks the nodes that have it, 64 nodes a set.
pub record ByBit (closed masks : List ℕ) (by_bit : List (List ℕ)) : Type 0 where
  pub sets : (w : ℕ) → w < 3 → Gathered closed masks (64 * w) (get_or by_bit w [])

-- And of each kind of masks.
pub record InSets (closed : List ℕ) (marks : MaskTable) (nodes : NodeSets) : Type 0 where
  pub starts : ByBit closed marks.starts nodes.starts
  pub ends : ByBit closed marks.ends nodes.ends
  pub held : ByBit closed marks.held nodes.held

-- It holds of all closed nodes and masks that these sets are of.
abbrev pub OfSets : NodeSets → (List ℕ → MaskTable → Type 0) → Type 0
OfSets nodes P = (closed : List ℕ) (marks : MaskTable) → InSets closed marks nodes → P closed marks

-- Of 64 nodes from `first` on, those that are not closed and share a bit with the mask.
abbrev pub SharedFrom : List ℕ → List ℕ → ℕ → ℕ → ℕ → Type 0
SharedFrom closed masks mask first set =
    (j : ℕ) → j < 64 → has set j ≡ (eqb (get_or closed (first + j) 0) 0 && common mask (get_or masks (first + j) 0))

-- And of all.
pub record Sharing (closed masks : List ℕ) (mask : ℕ) (r : Words) : Type 0 where
  pub low : SharedFrom closed masks mask (64 * 0) r.low
  pub middle : SharedFrom closed masks mask (64 * 1) r.middle
  pub high : SharedFrom closed masks mask (64 * 2) r.high
