-- Row 16 and the length of what is written, by the counts of a block: no listing has too many edges where it has few enough nodes.
-- Assumes nothing.
use Rattle.std.specs.Prelude.{◌≡◌, refl, Bool, true, false, ◌||◌, List, [], ◌∷◌, map, suc, ◌*◌, ◌≤◌, ltb, length}
use Rattle.std.proofs.Common.{◌∙◌, arith, length-append, ltb-true, ltb-false, lt-ltb, le-ltb}
use Rattle.chart.specs.Format.{outside, size}
use Rattle.chart.specs.Refusal.{bad_counts}
use Rattle.chart_writing.specs.Every.{All, joined}
use Rattle.chart_writing.specs.Encoded.{encode-length}
use Rattle.theory_listing.specs.Tree.{Block, node_count, construct_count, Cell, constructs}
use Rattle.theory_listing.proofs.Flow.{Few, few}
use Rattle.theory_listing.specs.Place.{length-constructs}
use Rattle.theory_listing.specs.Meaning.{written_edition, finish, inner, whole, edge, edges_of, construct_for, block_nodes, block_edges, block_constructs, block_bytes}
use Rattle.theory_listing.specs.Call.{too_many}
use Rattle.theory_listing.proofs.CellTables.{length-mapped}
use Rattle.theory_listing.proofs.BlockTables.{length_whole, length-nodes, some-edge}

edges_few : (l : List Cell) → All Few l → length (edges_of l) ≤ 2 * length l
unfolding edges_of
edges_few [] h = omega arith
edges_few (c ∷ l) h =
    omega (arith, length-append (map (edge c.at) c.to) (edges_of l), length-mapped (edge c.at) c.to, h.0, edges_few l h.1)

whole-few : (b : Block) → All Few (whole b)
unfolding whole
whole-few b = (omega arith, joined Few (inner b) _ (few b outside 0 1 (finish b)) (omega arith, tt))

pub length-block_constructs : (b : Block) → length (block_constructs b) ≡ construct_count b
length-block_constructs b = length-mapped construct_for (constructs b outside 0) ∙ length-constructs b outside 0

-- Row 16 by the nodes and the constructs alone: each node has at most two edges.
pub too_many_lem : (b : Block) → too_many b ≡ (ltb 190 (node_count b) || ltb 48 (construct_count b))
unfolding too_many bad_counts
too_many_lem b = go (ltb 190 (node_count b)) refl
  where
    go : (x : Bool) → ltb 190 (node_count b) ≡ x → too_many b ≡ (x || ltb 48 (construct_count b))
    go true q =
        rw (length-nodes b, le-ltb (suc (suc (node_count b))) 2 (omega arith), lt-ltb 192 (suc (suc (node_count b))) (omega (arith, ltb-true 190 (node_count b) q)))
    go false q =
        let few : node_count b ≤ 190 = ltb-false 190 (node_count b) q in
        let most : length (block_edges b) ≤ 2 * length (whole b) = edges_few (whole b) (whole-few b) in
        rw (
          length-nodes b,
          le-ltb (suc (suc (node_count b))) 2 (omega arith),
          le-ltb 192 (suc (suc (node_count b))) (omega arith),
          le-ltb (length (block_edges b)) 1 (some-edge b),
          le-ltb 1024 (length (block_edges b)) (omega (arith, length_whole b)),
          length-block_constructs b,
        )

-- How long a chart is.
pub block-length : (b : Block) → length (block_bytes b) ≡ size written_edition (suc (suc (node_count b))) (length (block_edges b)) (construct_count b)
unfolding block_bytes
block-length b = encode-length written_edition (block_nodes b) (block_edges b) (block_constructs b) ∙ rw (length-nodes b, length-block_constructs b)
