-- What the checks note of a chart's nodes: their scopes, and two tables of these that tell row 9 of one edge by itself.
-- Assumes nothing.
use Rattle.std.specs.Prelude.{◌≡◌, Bool, false, not, cond, List, ℕ, ◌≤◌, ◌<◌, eqb, length, get_or}
use Rattle.chart.specs.Format.{Decoded, decode, node_at, edge_at}
use Rattle.chart.specs.Scope.{begin_node, end_node, scope_at}
use Rattle.chart.specs.Refusal.{bad_nodes, bad_frames, bad_edge, frames_section}
use Rattle.chart.specs.Checked.{Laid}
use Rattle.chart.specs.declared.format.Chart.{Chart}
use Rattle.check_nodes.specs.Framed.{Framed}

-- Scopes that no node has.
abbrev pub no_leaving : ℕ
no_leaving = 256

abbrev pub no_arriving : ℕ
no_arriving = 257

-- The table while it is filled: it has the scopes of those of the first n nodes that have P, of the other ones anything that fits a byte, and
-- `none` past them.
pub record ScopesOf (P : ℕ → Type 0) (own none : ℕ) (D : Decoded) (n : ℕ) (table : List ℕ) : Type 0 where
  pub long : length table ≡ 256
  pub at : (x : ℕ) → x < n → P x → get_or table x 0 ≡ scope_at own D.nodes D.constructs x
  pub byte : (x : ℕ) → x < n → get_or table x 0 < 256
  pub past : (x : ℕ) → n ≤ x → x < 256 → get_or table x 0 ≡ none

-- Node x has its scope when the nodes of this kind, begins or ends, of the first c constructs have theirs: it is one of them, or of another
-- kind.
abbrev pub FilledTo : Decoded → ℕ → ℕ → ℕ → Type 0
FilledTo D kind c x = (node_at D.nodes x).kind ≡ kind → (node_at D.nodes x).number < c

-- For each byte the scope of the node of that number, and `none` where there is no such node.
pub record ScopeTable (own none : ℕ) (D : Decoded) (table : List ℕ) : Type 0 where
  pub long : length table ≡ 256
  pub at : (x : ℕ) → x < length D.nodes → get_or table x 0 ≡ scope_at own D.nodes D.constructs x
  pub byte : (x : ℕ) → x < length D.nodes → get_or table x 0 < 256
  pub past : (x : ℕ) → length D.nodes ≤ x → x < 256 → get_or table x 0 ≡ none

-- What row 9 rests on: a chart that rows 1 to 5 and row 7 let pass, with the begins and the ends of its constructs.
abbrev pub FramesKnown : List ℕ → Chart → List ℕ → List ℕ → Type 0
FramesKnown s chart begins ends =
    Laid s chart × (bad_nodes (decode s) ≡ false) × (bad_frames (decode s) ≡ false) × Framed (decode s) begin_node begins × Framed (decode s) end_node ends

-- For each byte whether the node of that number frames a section, as its begin or its end by `kind`: 1 or 0, when the first c constructs are
-- noted.
pub record SectionsTo (D : Decoded) (kind c : ℕ) (table : List ℕ) : Type 0 where
  pub long : length table ≡ 256
  pub at : (x : ℕ) → x < 256 → FilledTo D kind c x → get_or table x 0 ≡ cond (frames_section D kind x) 1 0

-- Row 9 of edge i by itself.
abbrev pub bad_by_itself : Decoded → ℕ → Bool
bad_by_itself D i = bad_edge D.nodes D.constructs (edge_at D.edges i).from (edge_at D.edges i).to

-- Two tables of scopes that differ exactly where an edge is bad by itself (row 9).
pub record EdgeScopes (D : Decoded) (leave arrive : List ℕ) : Type 0 where
  pub leave-long : length leave ≡ 256
  pub arrive-long : length arrive ≡ 256
  pub bad : (from to : ℕ) → from < 256 → to < 256 → not (eqb (get_or leave from 0) (get_or arrive to 0)) ≡ bad_edge D.nodes D.constructs from to
