-- The chart of a block that was read, as put together in scratch memory, and the rows that are left for it.
-- Assumes nothing.
use Rattle.std.specs.Prelude.{◌≡◌, List, [], ◌∷◌, ◌++◌, ℕ, suc, ◌+◌, ◌*◌, ◌≤◌, length, take}
use Rattle.chart.specs.Format.{outside, decode}
use Rattle.chart.specs.Refusal.{Row, bad_nodes, bad_constructs, bad_barriers}
use Rattle.chart.specs.declared.format.Chart.{Chart}
use Rattle.chart_writing.specs.Bytes.{trailer_bytes}
use Rattle.chart_writing.specs.Encode.{node_record, edge_record, construct_record, flat}
use Rattle.chart_writing.specs.Trailer.{trailer_for}
use Rattle.output.specs.Output.{room_row}
use Rattle.theory_listing.specs.Tree.{Block, node_count, construct_count}
use Rattle.theory_listing.specs.Grammar.{up_to, listed}
use Rattle.theory_listing.specs.Meaning.{written_edition, block_nodes, block_edges, block_constructs}
use Rattle.chart.specs.declared.format.Refusal.TheVariants.{BadNodes, BadConstructs, BadBarriers}

-- The edition and the counts of a block's chart.
abbrev pub counts_for : Block → Chart
counts_for b = record { edition = written_edition; nodes = suc (suc (node_count b)); edges = length (block_edges b); constructs = construct_count b; region = outside }

-- The whole text was read, and its nodes and constructs are within the limits.
pub record ListedWithin (text : List ℕ) (nodes constructs : ℕ) : Type 0 where
  pub block : Block
  pub last : ℕ
  pub read : listed text ≡ up_to block last
  pub node-count : nodes ≡ node_count block
  pub construct-count : constructs ≡ construct_count block
  pub nodes-fit : nodes ≤ 190
  pub constructs-fit : constructs ≤ 48

-- The tables begin with the records of a block's chart, which has n nodes between Start and Finish, and e edges.
pub record Tabled (b : Block) (n e : ℕ) (nodes edges parts : List ℕ) : Type 0 where
  pub edges_few : e ≤ 384
  pub edge_count : e ≡ length (block_edges b)
  pub node-bytes : take (4 * (n + 2)) nodes ≡ flat node_record (block_nodes b)
  pub edge-bytes : take (2 * e) edges ≡ flat edge_record (block_edges b)
  pub construct-bytes : take (4 * length (block_constructs b)) parts ≡ flat (construct_record written_edition) (block_constructs b)

-- The tables have all the records of a chart of edition 1.
abbrev pub Covers : Chart → List ℕ → List ℕ → List ℕ → Type 0
Covers chart nodes edges parts = (4 * chart.nodes ≤ length nodes) × (2 * chart.edges ≤ length edges) × (4 * chart.constructs ≤ length parts)

-- Its bytes, from them: the records, then the trailer.
abbrev pub table_bytes : Chart → List ℕ → List ℕ → List ℕ → List ℕ
table_bytes chart nodes edges parts =
    take (4 * chart.nodes) nodes
    ++ (take (2 * chart.edges) edges
    ++ (take (4 * chart.constructs) parts ++ trailer_bytes (trailer_for chart.edition chart.nodes chart.edges chart.constructs)))

-- 5, 6, 8 and 11, of a chart's bytes.
unfoldable pub late_rows : List ℕ → ℕ → List Row
late_rows bytes room =
    record { refusal = BadNodes; applies = bad_nodes (decode bytes) }
    ∷ record { refusal = BadConstructs; applies = bad_constructs (decode bytes) }
    ∷ record { refusal = BadBarriers; applies = bad_barriers (decode bytes) }
    ∷ room_row room (length bytes) ∷ []
