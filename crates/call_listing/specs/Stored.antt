-- The records of some nodes, of their edges and of some constructs, put after those that stand in three tables already.
-- Assumes nothing.
use Rattle.std.specs.Prelude.{◌≡◌, List, [], ◌∷◌, ◌++◌, map, ℕ, ◌+◌, ◌*◌, ◌≤◌, length, take}
use Rattle.chart_writing.specs.Encode.{node_record, edge_record, construct_record, flat}
use Rattle.theory_listing.specs.Tree.{Sort, Cell, cell, two, Part}
use Rattle.theory_listing.specs.Meaning.{written_edition, kind_byte, node_for, edges_of, construct_for}

-- Of some cells, nodes k to k' and their edges, which then are e' for e. A node has two at most.
pub record Stored (cs : List Cell) (k k' e e' : ℕ) (nodes edges nodes' edges' : List ℕ) : Type 0 where
  pub node-bytes : take (4 * k') nodes' ≡ take (4 * k) nodes ++ flat node_record (map node_for cs)
  pub edge-bytes : take (2 * e') edges' ≡ take (2 * e) edges ++ flat edge_record (edges_of cs)
  pub edge_count : e' ≡ e + length (edges_of cs)
  pub edges_few : e' + 2 * k ≤ e + 2 * k'

-- Of node k alone, of whatever sort has this kind and wherever it lies; it leads to x and to y, or to one where they are the same.
abbrev pub StoredNode : (kind number k x y e e' : ℕ) (nodes edges nodes' edges' : List ℕ) → Type 0
StoredNode kind number k x y e e' nodes edges nodes' edges' =
    (sort : Sort) (lies : ℕ) → kind_byte sort ≡ kind → Stored (cell k sort number lies (two x y) ∷ []) k (k + 1) e e' nodes edges nodes' edges'

-- Of some constructs, numbers m to m'.
abbrev pub StoredParts : List Part → ℕ → ℕ → List ℕ → List ℕ → Type 0
StoredParts ps m m' parts parts' = take (4 * m') parts' ≡ take (4 * m) parts ++ flat (construct_record written_edition) (map construct_for ps)
