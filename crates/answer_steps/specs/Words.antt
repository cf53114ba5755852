-- The columns of a region's table, as they are read off a chart.
-- Assumes nothing.
use Rattle.std.specs.Prelude.{◌≡◌, ◌⊎◌, Bool, ◌&&◌, cond, List, ℕ, ◌+◌, ◌*◌, ◌/◌, ◌%◌, ◌≤◌, ◌<◌, eqb, ltb, length, get_or}
use Rattle.lists.specs.Bits.{has}
use Rattle.lists.specs.Mask.{Mask, mask_of}
use Rattle.lists.specs.Range.{any}
use Rattle.chart.specs.Format.{outside, Decoded, node_at, construct_at}
use Rattle.chart.specs.Scope.{Encloses, parent_of}
use Rattle.chart.specs.Reading.{inside_at}

-- n places from a on hold f 0, f 1, ..; the others are as they were.
pub record Column (a n : ℕ) (f : ℕ → ℕ) (old new : List ℕ) : Type 0 where
  pub long : length new ≡ length old
  pub at : (j : ℕ) → j < n → get_or new (a + j) 0 ≡ f j
  pub rest : (j : ℕ) → (j < a) ⊎ (a + n ≤ j) → get_or new j 0 ≡ get_or old j 0

-- What lies before a and from b on is as it was.
pub record Beside (a b : ℕ) (old new : List ℕ) : Type 0 where
  pub long : length new ≡ length old
  pub rest : (j : ℕ) → (j < a) ⊎ (b ≤ j) → get_or new j 0 ≡ get_or old j 0

-- The code of what a node is for the region p, of whose constructs `counts` tells.
unfoldable pub role_code : ℕ → (ℕ → Bool) → ℕ → ℕ → ℕ
role_code p counts kind number = cond (eqb kind 0) 0 (cond (eqb number p) 1 (cond (eqb kind 1) 0 (cond (counts number) kind 0)))

-- The words of node x: its role, the construct that it opens or closes, the constructs around it.
unfoldable pub node_word : Decoded → ℕ → ℕ → ℕ → ℕ → ℕ
node_word D p members which x =
    let kind = (node_at D.nodes x).kind in
    let number = (node_at D.nodes x).number in
    cond (eqb which 0) (role_code p (has members) kind number) (cond (eqb which 1) (cond (ltb kind 2) 0 number) (mask_of (inside_at D.nodes D.constructs x) 48))

-- The words of construct c: kind, parent, thread, begin and end.
unfoldable pub construct_word : Decoded → List ℕ → List ℕ → ℕ → ℕ → ℕ
construct_word D begins ends which c =
    let construct = construct_at D.constructs c in
    cond (eqb which 0) construct.kind (cond (eqb which 1) construct.parent (cond (eqb which 2) construct.filter (cond (eqb which 3) (get_or begins c 0) (get_or ends c 0))))

-- All entries are nodes.
abbrev pub Nodes : List ℕ → Type 0
Nodes l = (k : ℕ) → get_or l k 0 < 192

-- The barrier at which the team of region p begins or ends: of the outermost region `outer`, of a parallel's region its frame.
abbrev pub terminal_at : ℕ → ℕ → List ℕ → ℕ
terminal_at p outer frames = cond (eqb p outside) outer (get_or frames p 0)

-- For each of the first n constructs, those around it and itself.
pub record Above (D : Decoded) (n : ℕ) (above : List ℕ) : Type 0 where
  pub long : length above ≡ 48
  pub at : (c : ℕ) → c < n → Mask (Encloses (parent_of D.constructs) c) 48 (get_or above c 0)

-- Of the pairs of nodes, those are marked that one of the first n edges joins.
pub record Marked (froms tos : List ℕ) (n : ℕ) (table : List ℕ) : Type 0 where
  pub at : (x y : ℕ) → x < 256 → y < 256 → has (get_or table (4 * x + y / 64) 0) (y % 64) ≡ any n (λ i. eqb (get_or froms i 0) x && eqb (get_or tos i 0) y)
