-- What the searches work on, as it stands for a region: the table of its edges with the places where those of each node begin, its barriers as
-- stops and as a list; the nodes that a claim may not name; and the bytes that these are loaded from.
-- Assumes nothing.
use Rattle.std.specs.Prelude.{◌≡◌, Bool, true, false, not, cond, List, ℕ, ◌+◌, ◌≤◌, ◌<◌, ltb, eqb, length, get_or, set}
use Rattle.std.proofs.Math.Option.{none}
use Rattle.lists.specs.Bits.{has}
use Rattle.lists.specs.Range.{count}
use Rattle.lists.specs.Select.{select}
use Rattle.lists.specs.Store.{Written}
use Rattle.chart.specs.Format.{Edge as Edge-as-Edge, Decoded, decode, edge_at}
use Rattle.chart.specs.Region.{Kind, single, master, critical, loop, ordered, sections, section, parallel, Region}
use Rattle.chart.specs.Refusal.{first_of, table_rows}
use Rattle.chart.specs.Scope.{leaving_at}
use Rattle.chart.specs.Nested.{lies_within}
use Rattle.chart.specs.Checked.{Laid}
use Rattle.chart.specs.declared.format.Chart.{Chart}
use Rattle.chart.proofs.Facts.{Named}
use Rattle.theory_paths.specs.Path.{Edge, Open}
use Rattle.theory_paths.specs.Decide.{no_barrier, reaches_any, returns}
use Rattle.theory_paths.specs.Graph.{Listed, Places}
use Rattle.theory_paths.specs.Cut.{edges_of}
use Rattle.theory_paths.specs.Phases.{Direction, forward, backward, barriers, barrier_at, marks, nearest}
use Rattle.search.specs.Parts.{row, Split}
use Rattle.search.specs.declared.edges.Parts.{Parts}
use Rattle.theory_answers.specs.Numbers.{asked}

-- Bytes of a chart that rows 1 to 9 of the refusals let pass, with its counts, and the number of one of its regions.
pub record Accepted (s : List ℕ) (chart : Chart) : Type 0 where
  pub laid : Laid s chart
  pub passes : first_of (table_rows (decode s)) ≡ none
  pub named : Named (decode s).constructs chart.region

-- Edges in columns: the nodes that they leave, and those that they come to.
pub record Columns (edges : List Edge-as-Edge) (froms tos : List ℕ) : Type 0 where
  pub from : (i : ℕ) → get_or froms i 0 ≡ (edge_at edges i).from
  pub to : (i : ℕ) → get_or tos i 0 ≡ (edge_at edges i).to

-- Where the edges of node x begin in a sorted edge table: the number of edges that leave lower nodes (02: Note 3).
unfoldable pub first_edge : List Edge-as-Edge → ℕ → ℕ
first_edge edges x = count (length edges) (λ i. ltb (edge_at edges i).from x)

-- The places of all nodes. Where a node's edges end, those of the next begin.
pub record FirstEdges (edges : List Edge-as-Edge) (places : List ℕ) : Type 0 where
  pub long : length places ≡ 193
  pub at : (x : ℕ) → x ≤ 192 → get_or places x 0 ≡ first_edge edges x

-- A table of edges in which nothing is written yet.
pub record Blank (table : List (List ℕ)) : Type 0 where
  pub six : length table ≡ 6
  pub long : (r : ℕ) → r < 6 → length (row table r) ≡ 1024
  pub none : (r j : ℕ) → get_or (row table r) j 0 ≡ 0

-- The table of the edges of a chart as it is read for the region p, parted by stops, and their number.
pub record Tabled (p : ℕ) (D : Decoded) (stops : List ℕ) (table : List (List ℕ)) (total : ℕ) (parts : Parts) : Type 0 where
  pub six : length table ≡ 6
  pub count : total ≡ length (edges_of p D)
  pub columns : Columns (edges_of p D) (row table 0) (row table 1)
  pub split : Split table total stops parts

-- An edge leads from x to y; backward: from y to x. And so for any path.
abbrev pub Along : Direction → Region → ℕ → ℕ → Type 0
Along forward R x y = Edge R x y
Along backward R x y = Edge R y x

abbrev pub leads_any : Direction → Region → ℕ → ℕ → Bool
leads_any forward R x y = reaches_any R x y
leads_any backward R x y = reaches_any R y x

-- The table of the region's edges, parted by stops, and the places where the edges of each node begin.
pub record Arranged (R : Region) (edges : List (List ℕ)) (places stops : List ℕ) (parts : Parts) : Type 0 where
  pub count : ℕ
  pub split : Split edges count stops parts
  pub begins : Places (row edges 0) count places
  pub listed-edge : (x y : ℕ) → Listed (row edges 0) (row edges 1) count x y → Edge R x y
  pub edge-listed : (x y : ℕ) → Edge R x y → Listed (row edges 0) (row edges 1) count x y

-- What the marking is handed: the edges of a chart as it is read for the region p, parted by some stops, and the places where the nodes'
-- edges begin.
pub record Handed (p : ℕ) (D : Decoded) (edges : List (List ℕ)) (places : List ℕ) (parts : Parts) : Type 0 where
  pub stops : List ℕ
  pub split : Split edges (length (edges_of p D)) stops parts
  pub columns : Columns (edges_of p D) (row edges 0) (row edges 1)
  pub begins : FirstEdges (edges_of p D) places
  -- past the last node stands the number of edges
  pub past : get_or places (length D.nodes) 0 ≡ length (edges_of p D)

-- A stop stands on each barrier.
pub record Stops (R : Region) (stops : List ℕ) : Type 0 where
  pub long : length stops ≡ 192
  pub at : (x : ℕ) → get_or stops x 0 ≡ cond (no_barrier (R.role x)) 0 1

-- A flag on each node that a claim may not name: a barrier, or a node outside the region.
pub record Closed (R : Region) (closed : List ℕ) : Type 0 where
  pub at : (x : ℕ) → x < R.nodes → get_or closed x 0 ≡ cond (asked R x) 0 1

-- The pair rules ask of constructs of this kind whether they return: of singles, of dos, and for its sections of a sections.
abbrev pub asks_return : Kind → Bool
asks_return single = true
asks_return master = false
asks_return critical = false
asks_return loop = true
asks_return ordered = false
asks_return sections = true
asks_return section = false
asks_return parallel = false

-- The mask tells of these constructs whether they return.
abbrev pub Returned : Region → ℕ → Type 0
Returned R mask = (c : ℕ) → c < R.constructs → asks_return (R.kind c) ≡ true → has mask c ≡ returns R c

-- The first nodes of the list are those of the barriers, by number.
pub record Barriers (R : Region) (nodes : List ℕ) (total : ℕ) : Type 0 where
  pub long : length nodes ≡ 64
  pub count : total ≡ length (barriers R)
  pub at : (b : ℕ) → b < total → get_or nodes b 0 ≡ barrier_at R b
  pub node : (b : ℕ) → get_or nodes b 0 < 192

-- The masks of the nodes, in a direction.
abbrev pub Masks : Direction → Region → List ℕ → Type 0
Masks d R masks = (x : ℕ) → x < 192 → get_or masks x 0 ≡ marks d R x

-- The fewest edges from a barrier to each node that is none, in a direction.
abbrev pub Levels : Direction → Region → List ℕ → Type 0
Levels d R levels = (x : ℕ) → Open R x → get_or levels x 0 ≡ nearest d R x

-- A stop stands on node x; on the k-th node from x on.
abbrev pub has_stop : List ℕ → ℕ → Bool
has_stop stops x = not (eqb (get_or stops x 0) 0)

abbrev pub stop_from : List ℕ → ℕ → ℕ → Bool
stop_from stops x k = has_stop stops (x + k)

-- The first `total` of the list are the nodes below x on which a stop stands, by number; the rest are 0.
pub record Listing (stops : List ℕ) (x : ℕ) (nodes : List ℕ) (total : ℕ) : Type 0 where
  pub long : length nodes ≡ 64
  pub count : total ≡ length (select x (has_stop stops))
  pub at : (b : ℕ) → get_or nodes b 0 ≡ get_or (select x (has_stop stops)) b 0

-- One node more for the list of the first `total` barriers: no stop stands on it, or it is put behind the others.
pub data Noted (stop x : ℕ) (nodes : List ℕ) (total : ℕ) : List ℕ → ℕ → Type 0 where
  skip : stop ≡ 0 → Noted stop x nodes total nodes total
  put : (stop ≡ 0 → ⊥) → Noted stop x nodes total (set nodes total x) (total + 1)

-- One edge more for the first `total` rows of two columns: it has no flag, or it is put behind the others.
pub data Stored (flag from to : ℕ) (froms tos : List ℕ) (total : ℕ) : List ℕ → List ℕ → ℕ → Type 0 where
  left : flag ≡ 0 → Stored flag from to froms tos total froms tos total
  kept : (flag ≡ 0 → ⊥) → Stored flag from to froms tos total (set froms total from) (set tos total to) (total + 1)

-- The same of the first two rows of a table.
abbrev pub StoredIn : ℕ → ℕ → ℕ → List (List ℕ) → ℕ → List (List ℕ) → ℕ → Type 0
StoredIn flag from to old total new = Stored flag from to (row old 0) (row old 1) total (row new 0) (row new 1)

-- A flag on each construct that lies in the region p, at any depth; the others of these and all other places have none.
abbrev pub Within : Decoded → ℕ → List ℕ → Type 0
Within D p flags = Written (λ q. cond (lies_within D.constructs p q) 1 0) (length D.constructs) flags

-- A flag on each node whose edges are the region's.
pub record Leaving (D : Decoded) (p : ℕ) (flags : List ℕ) : Type 0 where
  pub at : (x : ℕ) → get_or flags x 0 ≡ cond (lies_within D.constructs p (leaving_at D.nodes D.constructs x)) 1 0
