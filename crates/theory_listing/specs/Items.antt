-- The nodes and constructs of a block, item by item: what a loop over items makes.
-- Assumes nothing.
use Rattle.std.specs.Prelude.{◌≡◌, true, false, List, ◌++◌, ℕ, suc, ◌+◌}
use Rattle.std.proofs.Common.{append_assoc, append-nil, arith}
use Rattle.theory_listing.specs.Tree.{Block, end, node_count, construct_count, first, Cell, cells, constructs}
use Rattle.theory_listing.specs.Grammar.{Item, one_plain, one-barrier, one-loop, one-branch, one-around, put}

-- the nodes of an item that the node t follows
abbrev pub item_cells : Item → ℕ → ℕ → ℕ → ℕ → List Cell
item_cells i o m k t = cells (put i end) o m k t

-- an item's own nodes and constructs come first, then those of the rest; what follows the item is where the rest is entered
pub cells-item : (i : Item) (r : Block) (o m k t : ℕ)
    → cells (put i r) o m k t
    ≡ item_cells i o m k (first r (k + node_count (put i end)) t) ++ cells r o (m + construct_count (put i end)) (k + node_count (put i end)) t
unfolding cells put node_count construct_count first
cells-item one_plain r o m k t = let a : k + 1 ≡ suc k = omega arith in let b : m + 0 ≡ m = omega arith in rw (a, b)
cells-item one-barrier r o m k t = let a : k + 1 ≡ suc k = omega arith in let b : m + 0 ≡ m = omega arith in rw (a, b)
cells-item (one-loop b) r o m k t =
    let a : k + suc (node_count b + 0) ≡ suc k + node_count b = omega arith in
    let c : m + (construct_count b + 0) ≡ m + construct_count b = omega arith in
    rw (a, c, append-nil (cells b o m (suc k) k))
cells-item (one-branch x y) r o m k t =
    let j = suc k + node_count x + node_count y in
    let a : k + suc (node_count x + (node_count y + suc 0)) ≡ suc (suc k + node_count x + node_count y) = omega arith in
    let c : m + (construct_count x + (construct_count y + 0)) ≡ m + construct_count x + construct_count y = omega arith in
    let rest = cells r o (m + construct_count x + construct_count y) (suc j) t in
    rw (a, c, append_assoc (cells x o m (suc k) j) _ rest, append_assoc (cells y o (m + construct_count x) (suc k + node_count x) j) _ rest)
cells-item (one-around c true b) r o m k t =
    let e = suc k + node_count b in
    let a : k + suc (node_count b + suc (suc 0)) ≡ suc (suc (suc k + node_count b)) = omega arith in
    let d : m + suc (construct_count b + 0) ≡ suc m + construct_count b = omega arith in
    rw (a, d, append_assoc (cells b m (suc m) (suc k) e) _ (cells r o (suc m + construct_count b) (suc (suc e)) t))
cells-item (one-around c false b) r o m k t =
    let e = suc k + node_count b in
    let a : k + suc (node_count b + suc 0) ≡ suc (suc k + node_count b) = omega arith in
    let d : m + suc (construct_count b + 0) ≡ suc m + construct_count b = omega arith in
    rw (a, d, append_assoc (cells b m (suc m) (suc k) e) _ (cells r o (suc m + construct_count b) (suc e) t))

pub constructs-item : (i : Item) (r : Block) (o m : ℕ) → constructs (put i r) o m ≡ constructs (put i end) o m ++ constructs r o (m + construct_count (put i end))
unfolding constructs put construct_count
constructs-item one_plain r o m = let b : m + 0 ≡ m = omega arith in rw b
constructs-item one-barrier r o m = let b : m + 0 ≡ m = omega arith in rw b
constructs-item (one-loop b) r o m = let c : m + (construct_count b + 0) ≡ m + construct_count b = omega arith in rw (c, append-nil (constructs b o m))
constructs-item (one-branch x y) r o m =
    let c : m + (construct_count x + (construct_count y + 0)) ≡ m + construct_count x + construct_count y = omega arith in
    let second = constructs y o (m + construct_count x) in
    rw (c, append-nil second, append_assoc (constructs x o m) second (constructs r o (m + construct_count x + construct_count y)))
constructs-item (one-around c true b) r o m = let d : m + suc (construct_count b + 0) ≡ suc m + construct_count b = omega arith in rw (d, append-nil (constructs b m (suc m)))
constructs-item (one-around c false b) r o m = let d : m + suc (construct_count b + 0) ≡ suc m + construct_count b = omega arith in rw (d, append-nil (constructs b m (suc m)))
