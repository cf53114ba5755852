-- A listing as a tree (02, Note 2: "A listing is a row of items"), and the nodes and constructs that it means.
-- Assumes nothing.
use Rattle.std.specs.Prelude.{cond, List, [], ◌∷◌, ◌++◌, ℕ, suc, ◌+◌, eqb, ltb}

-- A block: an item, s, b, l, i or a construct of a kind, and the block that is left after it. `loop` is 02's l{..}, not 01's do. The barrier
-- that follows S and D stands in the block like one that was written.
pub data Block : Type 0 where
  end : Block
  plain : Block → Block
  barrier : Block → Block
  loop : Block → Block → Block
  branch : Block → Block → Block → Block
  around : ℕ → Block → Block → Block

-- How many nodes a block has. A loop has its head; a branch has its node and its join; a construct has its begin and its end.
unfoldable pub node_count : Block → ℕ
node_count end = 0
node_count (plain r) = suc (node_count r)
node_count (barrier r) = suc (node_count r)
node_count (loop b r) = suc (node_count b + node_count r)
node_count (branch a b r) = suc (node_count a + (node_count b + suc (node_count r)))
node_count (around c b r) = suc (node_count b + suc (node_count r))

unfoldable pub construct_count : Block → ℕ
construct_count end = 0
construct_count (plain r) = construct_count r
construct_count (barrier r) = construct_count r
construct_count (loop b r) = construct_count b + construct_count r
construct_count (branch a b r) = construct_count a + (construct_count b + construct_count r)
construct_count (around c b r) = suc (construct_count b + construct_count r)

-- Where a way into a block leads: to its first node, which is numbered k, or, where it has none, to the node t that follows it.
unfoldable pub first : Block → ℕ → ℕ → ℕ
first end k t = t
first (plain r) k t = k
first (barrier r) k t = k
first (loop b r) k t = k
first (branch a b r) k t = k
first (around c b r) k t = k

-- What a node is: plain, a barrier, a begin or an end.
pub data Sort : Type 0 where
  simple stop opens closes : Sort

-- A node: its number, its construct number, the construct that it lies in and the nodes that its edges lead to, rising.
pub record Cell : Type 0 where
  pub at : ℕ
  pub sort : Sort
  pub number : ℕ
  pub lies : ℕ
  pub to : List ℕ

abbrev pub cell : ℕ → Sort → ℕ → ℕ → List ℕ → Cell
cell k s n o l = record { at = k; sort = s; number = n; lies = o; to = l }

-- Two targets, rising; a doubled edge is written once.
unfoldable pub two : ℕ → ℕ → List ℕ
two a b = cond (eqb a b) (a ∷ []) (cond (ltb a b) (a ∷ (b ∷ [])) (b ∷ (a ∷ [])))

-- The nodes of a block that lies in the construct o and that the node t follows. Nodes are numbered as met, from k, constructs from m. A loop
-- is a plain head, its block, which leads back to the head, and leaves from the head. A branch is a plain node, two blocks, a plain join.
unfoldable pub cells : Block → ℕ → ℕ → ℕ → ℕ → List Cell
cells end o m k t = []
cells (plain r) o m k t = cell k simple o o (first r (suc k) t ∷ []) ∷ cells r o m (suc k) t
cells (barrier r) o m k t = cell k stop o o (first r (suc k) t ∷ []) ∷ cells r o m (suc k) t
cells (loop b r) o m k t =
    cell k simple o o (two (first b (suc k) k) (first r (suc k + node_count b) t))
    ∷ (cells b o m (suc k) k ++ cells r o (m + construct_count b) (suc k + node_count b) t)
cells (branch a b r) o m k t =
    cell k simple o o (two (first a (suc k) (suc k + node_count a + node_count b)) (first b (suc k + node_count a) (suc k + node_count a + node_count b)))
    ∷ (cells a o m (suc k) (suc k + node_count a + node_count b)
    ++ (cells b o (m + construct_count a) (suc k + node_count a) (suc k + node_count a + node_count b)
    ++ (cell (suc k + node_count a + node_count b) simple o o (first r (suc (suc k + node_count a + node_count b)) t ∷ [])
    ∷ cells r o (m + construct_count a + construct_count b) (suc (suc k + node_count a + node_count b)) t)))
cells (around c b r) o m k t =
    cell k opens m o (first b (suc k) (suc k + node_count b) ∷ [])
    ∷ (cells b m (suc m) (suc k) (suc k + node_count b)
    ++ (cell (suc k + node_count b) closes m o (first r (suc (suc k + node_count b)) t ∷ [])
    ∷ cells r o (suc m + construct_count b) (suc (suc k + node_count b)) t))

-- A construct: its kind and the construct that it stands in.
pub record Part : Type 0 where
  pub kind : ℕ
  pub parent : ℕ

-- The constructs of a block that lies in the construct o, as numbered.
unfoldable pub constructs : Block → ℕ → ℕ → List Part
constructs end o m = []
constructs (plain r) o m = constructs r o m
constructs (barrier r) o m = constructs r o m
constructs (loop b r) o m = constructs b o m ++ constructs r o (m + construct_count b)
constructs (branch a b r) o m =
    constructs a o m ++ (constructs b o (m + construct_count a) ++ constructs r o (m + construct_count a + construct_count b))
constructs (around c b r) o m = record { kind = c; parent = o } ∷ (constructs b m (suc m) ++ constructs r o (suc m + construct_count b))
