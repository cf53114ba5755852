-- What falls along the calls of the functions that fill the tables: the bytes left, and at one place from a block to its item to what the letter begins.
-- Assumes nothing.
use Rattle.std.proofs.Common.{length, ◌-◌, ◌≡◌, ℕ, ◌+◌, ◌*◌, ◌<◌, ◌≤◌}
use Rattle.theory_listing.specs.Tree.{Block}
use Rattle.theory_listing.specs.Grammar.{up_to, block_of}
use Rattle.call_listing.proofs.Turns.{Left}
use Rattle.call_listing.proofs.tables.+tables.Given as goal

abbrev pub decreases-fill_block : goal.decreases-fill_block
decreases-fill_block l = 4 * (length l.s.now - l.spot.at) + 2

abbrev pub decreases-fill_branch : goal.decreases-fill_branch
decreases-fill_branch l = 4 * (length l.s.now - l.spot.at)

abbrev pub decreases-fill_construct : goal.decreases-fill_construct
decreases-fill_construct l = 4 * (length l.s.now - l.spot.at)

abbrev pub decreases-fill_item : goal.decreases-fill_item
decreases-fill_item l = 4 * (length l.s.now - l.spot.at) + 1

abbrev pub decreases-fill_loop : goal.decreases-fill_loop
decreases-fill_loop l = 4 * (length l.s.now - l.spot.at)

-- What is left of the block completes the records of the whole.
abbrev pub invariant-fill_block-loop-here : goal.invariant-fill_block-loop-here
invariant-fill_block-loop-here l =
    (length l.nodes ≡ 768) × (length l.edges ≡ 768) × (length l.parts ≡ 192) × (l.spot.at ≤ l.here.at) × (l.here.edge ≤ 2 * l.here.node)
    × ((f : ℕ) (b : Block) (last : ℕ) → length l.s - l.spot.at < f → block_of f l.s l.spot.depth l.spot.at ≡ up_to b last
    → Left l.s l.spot l.here b last l.initial.nodes l.initial.edges l.initial.parts l.nodes l.edges l.parts)

abbrev pub decreases-fill_block-loop-here : goal.decreases-fill_block-loop-here
decreases-fill_block-loop-here l = length l.s - l.here.at
