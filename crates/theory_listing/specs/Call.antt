-- The call (02, Note 2): its rows in order, what it returns and what it leaves in the lent buffer.
-- Assumes nothing.
use Rattle.std.specs.Prelude.{Bool, false, List, [], ◌∷◌, ℕ, eqb, length, Result}
use Rattle.chart.specs.Refusal.{Row, bad_counts, bad_nodes, bad_constructs, bad_barriers}
use Rattle.output.specs.Output.{output_rows, written_by, left_by}
use Rattle.theory_listing.specs.Tree.{Block, end}
use Rattle.theory_listing.specs.Grammar.{Read, up_to, stopped, listed}
use Rattle.theory_listing.specs.Meaning.{block_nodes, block_edges, block_constructs, block_chart, block_bytes}
use Rattle.chart.specs.declared.format.Refusal.TheVariants.{BadNodes, BadConstructs, BadBarriers, BadGrammar, TooDeep, TooLarge}
use Rattle.chart.specs.declared.format.Refusal.{Refusal}

-- The block that was read; none where reading stopped.
unfoldable pub block_read : Read Block → Block
block_read (up_to b next) = b
block_read (stopped number) = end

-- Reading stopped with this number.
unfoldable pub stopped_by : ℕ → Read Block → Bool
stopped_by number (up_to b next) = false
stopped_by number (stopped reason) = eqb reason number

-- Row 16: node, edge or construct count over 01's limits. Row 3 has the limits; below them no count is, since Start, Finish and an edge are there.
unfoldable pub too_many : Block → Bool
too_many b = bad_counts (length (block_nodes b)) (length (block_edges b)) (length (block_constructs b))

-- 14 or 15, the first met from the left; then 16; then 5, for a barrier inside a construct, 6 and 8 as 01 has them, on the chart that would be
-- written.
unfoldable pub block_rows : Read Block → List Row
block_rows read =
    let b = block_read read in
    record { refusal = BadGrammar; applies = stopped_by 14 read }
    ∷ record { refusal = TooDeep; applies = stopped_by 15 read }
    ∷ record { refusal = TooLarge; applies = too_many b }
    ∷ record { refusal = BadNodes; applies = bad_nodes (block_chart b) }
    ∷ record { refusal = BadConstructs; applies = bad_constructs (block_chart b) }
    ∷ record { refusal = BadBarriers; applies = bad_barriers (block_chart b) }
    ∷ []

-- The bytes that a listing gives.
unfoldable pub listing_bytes : List ℕ → List ℕ
listing_bytes text = block_bytes (block_read (listed text))

-- Last 11.
unfoldable pub listing_rows : List ℕ → ℕ → List Row
listing_rows text room = output_rows (block_rows (listed text)) room (length (listing_bytes text)) []

unfoldable pub listing_written : List ℕ → List ℕ → Result ℕ Refusal
listing_written text out = written_by (listing_rows text (length out)) (length (listing_bytes text))

unfoldable pub listing_left : List ℕ → List ℕ → List ℕ
listing_left text out = left_by (listing_rows text (length out)) (listing_bytes text) out
