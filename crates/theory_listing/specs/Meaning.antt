-- The chart that a block means (02, Note 2), decoded and as bytes.
-- Assumes nothing.
use Rattle.std.specs.Prelude.{List, [], ◌∷◌, ◌++◌, map, ℕ, suc, length}
use Rattle.chart.specs.Format.{outside, Node, Edge, Construct, Decoded}
use Rattle.chart.specs.Scope.{barrier_node, begin_node, end_node}
use Rattle.chart_writing.specs.Trailer.{trailer_for}
use Rattle.chart_writing.specs.Encode.{encode}
use Rattle.theory_listing.specs.Tree.{Block, node_count, first, Sort, simple, stop, opens, closes, Cell, cell, cells, Part, constructs}

-- The edition that is written: no listing has a filter.
abbrev pub written_edition : ℕ
written_edition = 1

-- The kind of a node, as a byte.
unfoldable pub kind_byte : Sort → ℕ
kind_byte simple = 0
kind_byte stop = barrier_node
kind_byte opens = begin_node
kind_byte closes = end_node

-- Start and Finish go around the block: node 0, and the node after its last.
abbrev pub finish : Block → ℕ
finish b = suc (node_count b)

abbrev pub inner : Block → List Cell
inner b = cells b outside 0 1 (finish b)

unfoldable pub whole : Block → List Cell
whole b = cell 0 stop outside outside (first b 1 (finish b) ∷ []) ∷ (inner b ++ (cell (finish b) stop outside outside [] ∷ []))

-- Names and tags are 0.
abbrev pub node_for : Cell → Node
node_for c = record { kind = kind_byte c.sort; number = c.number; tag = 0 }

abbrev pub edge : ℕ → ℕ → Edge
edge x y = record { from = x; to = y }

unfoldable pub edges_of : List Cell → List Edge
edges_of [] = []
edges_of (c ∷ l) = map (edge c.at) c.to ++ edges_of l

abbrev pub construct_for : Part → Construct
construct_for p = record { kind = p.kind; parent = p.parent; name = 0; filter = 0 }

abbrev pub block_nodes : Block → List Node
block_nodes b = map node_for (whole b)

abbrev pub block_edges : Block → List Edge
block_edges b = edges_of (whole b)

abbrev pub block_constructs : Block → List Construct
block_constructs b = map construct_for (constructs b outside 0)

-- The chart of a block, decoded and as bytes.
abbrev pub block_chart : Block → Decoded
block_chart b = record {
  nodes = block_nodes b;
  edges = block_edges b;
  constructs = block_constructs b;
  trailer = trailer_for written_edition (length (block_nodes b)) (length (block_edges b)) (length (block_constructs b));
}

unfoldable pub block_bytes : Block → List ℕ
block_bytes b = encode written_edition (block_nodes b) (block_edges b) (block_constructs b)
