-- What the tables of a listing's chart are filled from: blocks and items that were read before and have room in the tables.
-- Assumes nothing.
use Rattle.std.specs.Prelude.{◌≡◌, ◌≢◌, Bool, true, false, cond, List, [], ◌∷◌, ℕ, suc, ◌+◌, ◌-◌, ◌*◌, ◌≤◌, ◌<◌, eqb, ltb, length, get_or}
use Rattle.theory_listing.specs.Tree.{Block, end, node_count, construct_count, stop, closes, Cell, cell, cells, constructs}
use Rattle.theory_listing.specs.Grammar.{plain_letter, barrier_letter, loop_letter, branch_letter, close_brace, Item, put, Read, up_to, pick, item_by, block_of}
use Rattle.call_listing.specs.Stored.{Stored, StoredParts}
use Rattle.call_listing.specs.declared.tables.Spot.{Spot}

-- The block at a spot was read, and there is room for its nodes and constructs; node 191 at most follows it.
pub record Reads (s : List ℕ) (spot : Spot) : Type 0 where
  pub fuel : ℕ
  pub block : Block
  pub last : ℕ
  pub enough : length s - spot.at < fuel
  pub read : block_of fuel s spot.depth spot.at ≡ up_to block last
  pub nodes-fit : spot.node + node_count block ≤ 191
  pub parts-fit : spot.part + construct_count block ≤ 48

-- What reads the item at a spot.
abbrev pub item_at : ℕ → List ℕ → Spot → Read Item
item_at fuel s spot = item_by s spot.depth spot.at (get_or s spot.at 0) (λ e next. block_of fuel s e next)

-- The item at a spot was read, it has n nodes, and there is room for them and for its constructs.
pub record Takes (s : List ℕ) (spot : Spot) (n : ℕ) : Type 0 where
  pub fuel : ℕ
  pub item : Item
  pub next : ℕ
  pub below : spot.at < length s
  pub enough : length s - spot.at ≤ fuel
  pub read : item_at fuel s spot ≡ up_to item next
  pub counted : (f : ℕ) (i : Item) (x : ℕ) → length s - spot.at ≤ f → item_at f s spot ≡ up_to i x → n ≡ node_count (put i end)
  pub nodes-fit : spot.node + n ≤ 191
  pub parts-fit : spot.part + construct_count (put item end) ≤ 48

-- The tables have room for all records, and the spot's numbers are those of nodes.
abbrev pub Room : Spot → List ℕ → List ℕ → List ℕ → Type 0
Room spot nodes edges parts =
    (length nodes ≡ 768) × (length edges ≡ 768) × (length parts ≡ 192) × (spot.follow ≤ 191) × (spot.edge ≤ 2 * spot.node)

-- The records of a block at a spot are stored; e is how many edges there are then.
abbrev pub Filled : Block → Spot → ℕ → List ℕ → List ℕ → List ℕ → List ℕ → List ℕ → List ℕ → Type 0
Filled b spot e nodes edges parts nodes' edges' parts' =
    Stored (cells b spot.owner spot.part spot.node spot.follow) spot.node (spot.node + node_count b) spot.edge e nodes edges nodes' edges'
    × StoredParts (constructs b spot.owner spot.part) spot.part (spot.part + construct_count b) parts parts'

-- The records of the item at a spot are stored, and those of the block there, whatever fuel reads them.
abbrev pub FilledItem : List ℕ → Spot → ℕ → List ℕ → List ℕ → List ℕ → List ℕ → List ℕ → List ℕ → Type 0
FilledItem s spot e nodes edges parts nodes' edges' parts' =
    (fuel : ℕ) (i : Item) (next : ℕ) → length s - spot.at ≤ fuel → item_at fuel s spot ≡ up_to i next
    → Filled (put i end) spot e nodes edges parts nodes' edges' parts'

abbrev pub FilledBlock : List ℕ → Spot → ℕ → List ℕ → List ℕ → List ℕ → List ℕ → List ℕ → List ℕ → Type 0
FilledBlock s spot e nodes edges parts nodes' edges' parts' =
    (fuel : ℕ) (b : Block) (last : ℕ) → length s - spot.at < fuel → block_of fuel s spot.depth spot.at ≡ up_to b last
    → Filled b spot e nodes edges parts nodes' edges' parts'

-- A construct stands at a spot: the letter there is none of a statement, a barrier, a loop or a branch.
abbrev pub ConstructAt : List ℕ → Spot → Type 0
ConstructAt s spot = let letter = get_or s spot.at 0 in (letter ≢ plain_letter) × (letter ≢ barrier_letter) × (letter ≢ loop_letter) × (letter ≢ branch_letter)

-- The end of the construct m in the construct o, at node k, which t follows; and the barrier between them, where one follows the construct.
abbrev pub end_cells : Bool → ℕ → ℕ → ℕ → ℕ → List Cell
end_cells true o m k t = cell k closes m o (suc k ∷ []) ∷ (cell (suc k) stop o o (t ∷ []) ∷ [])
end_cells false o m k t = cell k closes m o (t ∷ []) ∷ []

-- There is room for the end, node k, of the construct of n nodes at a spot, and for the barrier that may follow.
abbrev pub EndRoom : Spot → ℕ → ℕ → ℕ → List ℕ → List ℕ → Type 0
EndRoom spot n k e nodes edges =
    (k + 1 ≤ spot.node + n)
    × (spot.node + n ≤ 191)
    × (spot.follow ≤ 191)
    × (spot.part < 48)
    × (e ≤ 2 * k)
    × (length nodes ≡ 768)
    × (length edges ≡ 768)

-- They are stored: the end alone where it is the last of the n nodes, else the barrier after it.
abbrev pub StoredEnd : Spot → ℕ → ℕ → ℕ → ℕ → List ℕ → List ℕ → List ℕ → List ℕ → Type 0
StoredEnd spot n k e e' nodes edges nodes' edges' =
    (barrier : Bool) → spot.node + n ≡ k + 1 + cond barrier 1 0
    → Stored (end_cells barrier spot.owner spot.part k spot.follow) k (spot.node + n) e e' nodes edges nodes' edges'

-- Where a way into the block at a place leads: to k, its first node, or to t where it is empty.
abbrev pub ahead_of : List ℕ → ℕ → ℕ → ℕ → ℕ
ahead_of s at k t = pick (ltb at (length s)) (λ u. pick (eqb (get_or s at 0) close_brace) (λ u. t) (λ u. k)) (λ u. t)
