-- What falls along the calls of the reader's functions: the bytes left, and at one place from a block to its item to the item's block in braces.
-- Assumes nothing.
use Rattle.std.proofs.Common.{length, ◌-◌, ◌≡◌, ℕ, ◌≤◌, ◌<◌, ◌+◌, ◌*◌}
use Rattle.theory_listing.specs.Grammar.{block_of}
use Rattle.call_listing.specs.Extent.{extent_of, added_to}
use Rattle.call_listing.proofs.reader.+reader.Given as goal

abbrev pub decreases-block : goal.decreases-block
decreases-block l = 3 * (length l.s.now - l.at) + 2

abbrev pub decreases-braced : goal.decreases-braced
decreases-braced l = 3 * (length l.s.now - l.at)

abbrev pub decreases-item : goal.decreases-item
decreases-item l = 3 * (length l.s.now - l.at) + 1

-- The counts so far, added to those of the rest of the block, are those of the whole.
abbrev pub invariant-block-loop-here : goal.invariant-block-loop-here
invariant-block-loop-here l =
    (l.at ≤ l.here) × (l.at + l.nodes ≤ l.here) × (l.at + l.constructs ≤ l.here) × (l.here ≤ length l.s)
    × ((f : ℕ) → length l.s - l.at < f
    → (g : ℕ) × (length l.s - l.here < g) × (extent_of (block_of f l.s l.depth l.at) ≡ added_to l.nodes l.constructs (extent_of (block_of g l.s l.depth l.here))))

abbrev pub decreases-block-loop-here : goal.decreases-block-loop-here
decreases-block-loop-here l = length l.s - l.here
