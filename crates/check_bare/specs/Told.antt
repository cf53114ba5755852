-- What the byte places of a chart tell: of a record that begins there a number that is high where the record is bad, elsewhere 0; the
-- highest of these; and what is bad of an edge after another.
-- Assumes nothing.
use Rattle.std.specs.Prelude.{◌≡◌, Bool, ◌||◌, not, cond, List, ℕ, suc, ◌+◌, ◌/◌, ◌%◌, ◌≤◌, min, max, eqb, ltb, leb, length, get_or}
use Rattle.lists.specs.Range.{any}
use Rattle.chart.specs.Format.{outside, Decoded, edge_at}
use Rattle.chart.specs.Refusal.{rises}

-- the highest byte where a test passes
abbrev pub full : Bool → ℕ
full holds = cond holds 255 0

-- a byte at the even places alone
abbrev pub evenly : ℕ → ℕ → ℕ
evenly k byte = min byte (full (eqb (k % 2) 0))

-- Of a node, its kind, and of one that has a number, 255.
abbrev pub node_told : ℕ → ℕ → ℕ
node_told kind number = max kind (full (not (eqb number outside)))

-- Of an edge (from, to), the node that it comes to, and 255 where that is start or where the edge does not rise above the edge (a, b).
abbrev pub edge_told : ℕ → ℕ → ℕ → ℕ → ℕ
edge_told a b from to = max (max to (full (eqb to 0))) (max (full (ltb from a)) (min (full (eqb a from)) (full (leb to b))))

-- At place k of the nodes; at place k of the edges, which begin at `first`, of the edge that follows the one there.
abbrev pub node_place : List ℕ → ℕ → ℕ
node_place s k = evenly k (evenly (k / 2) (node_told (get_or s k 0) (get_or s (k + 1) 0)))

abbrev pub edge_place : List ℕ → ℕ → ℕ → ℕ
edge_place s first k =
    let at = first + k in
    evenly k (edge_told (get_or s at 0) (get_or s (at + 1) 0) (get_or s (at + 2) 0) (get_or s (at + 3) 0))

-- The highest of f below n reaches what one of them reaches.
pub record Highest (f : ℕ → ℕ) (n high : ℕ) : Type 0 where
  pub reaches : (v : ℕ) → 1 ≤ v → leb v high ≡ any n (λ k. leb v (f k))

-- Row 9, of the edge after edge i, but for its scopes and for the node that it leaves.
unfoldable pub bad_next : Decoded → ℕ → Bool
bad_next D i =
    let before = edge_at D.edges i in
    let after = edge_at D.edges (suc i) in
    leb (length D.nodes) after.to || (eqb after.to 0 || not (rises before.from before.to after.from after.to))
