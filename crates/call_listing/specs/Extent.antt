-- What the reader tells of a block or an item: how far it goes and its counts, or the refusal at which it stopped.
-- Assumes nothing.
use Rattle.std.specs.Prelude.{◌||◌, List, ℕ, ◌+◌, ◌<◌, ◌≤◌, eqb, cond, get_or, Result, Ok, Err}
use Rattle.chart.specs.Scope.{single_byte, loop_byte}
use Rattle.chart.specs.Refusal.{numbered}
use Rattle.chart.specs.declared.format.Refusal.{Refusal}
use Rattle.chart.specs.declared.format.Refusal.TheVariants.{BadGrammar, TooLarge}
use Rattle.theory_listing.specs.Tree.{Block, end, node_count, construct_count}
use Rattle.theory_listing.specs.Grammar.{nowait_letter, close_brace, Item, put, Read, up_to, stopped, after, pick, stands, braced, item_by, block_of}
use Rattle.theory_listing.specs.Call.{too_many}
use Rattle.call_listing.specs.declared.reader.Extent.{Extent}

abbrev pub Told : Type 0
Told = Result Extent Refusal

-- So many nodes and constructs, up to a place.
abbrev pub reached : ℕ → ℕ → ℕ → Told
reached next nodes constructs = Ok (record { next = next; nodes = nodes; constructs = constructs })

-- With fuel enough, reading stops with 14 or 15 alone (`braced-fine`, `item-fine`, `block-fine`; a whole text: `listed-fine`).
abbrev pub extent_of : Read Block → Told
extent_of (up_to b next) = reached next (node_count b) (construct_count b)
extent_of (stopped number) = Err (numbered number)

-- An item as a block of its own.
abbrev pub alone : Read Item → Read Block
alone read = after read (λ i next. up_to (put i end) next)

abbrev pub braced_extent : ℕ → List ℕ → ℕ → ℕ → Told
braced_extent fuel s d at = extent_of (braced s d at (λ e next. block_of fuel s e next))

abbrev pub item_extent : ℕ → List ℕ → ℕ → ℕ → Told
item_extent fuel s d at = extent_of (alone (item_by s d at (get_or s at 0) (λ e next. block_of fuel s e next)))

-- Reading goes on after what was read.
abbrev pub onward : Told → (Extent → Told) → Told
onward (Ok read) go = go read
onward (Err refusal) go = Err refusal

abbrev pub with_more : ℕ → ℕ → Extent → Extent
with_more x y read = record { next = read.next; nodes = read.nodes + x; constructs = read.constructs + y }

abbrev pub added_to : ℕ → ℕ → Told → Told
added_to x y told = onward told (λ read. Ok (with_more x y read))

abbrev pub closed_at : List ℕ → Extent → Told
closed_at s read = pick (stands s read.next close_brace) (λ u. reached (read.next + 1) read.nodes read.constructs) (λ u. Err BadGrammar)

-- A construct has its begin and its end, and a barrier where n does not stand after its brace.
abbrev pub barrier_after : List ℕ → Extent → Extent
barrier_after s read =
    pick (stands s read.next nowait_letter)
    (λ u. record { next = read.next + 1; nodes = read.nodes + 2; constructs = read.constructs + 1 })
    (λ u. with_more 3 1 read)

abbrev pub followed_at : List ℕ → ℕ → Extent → Extent
followed_at s kind read =
    pick (eqb kind single_byte || eqb kind loop_byte) (λ u. barrier_after s read) (λ u. with_more 2 1 read)

-- Row 16 after 14 and 15.
unfoldable pub limited_to : Read Block → Told
limited_to (up_to b next) = pick (too_many b) (λ u. Err TooLarge) (λ u. extent_of (up_to b next))
limited_to (stopped number) = Err (numbered number)

-- Reading ends in the text, and no more nodes and no more constructs than bytes were read from a place on: so no count overflows.
abbrev pub Within : ℕ → ℕ → Told → Type 0
Within from len (Ok read) = (from + read.nodes ≤ read.next) × (from + read.constructs ≤ read.next) × (read.next ≤ len)
Within from len (Err refusal) = Unit {0}

-- So many nodes and constructs more are still no more than the bytes read.
abbrev pub Fits : ℕ → ℕ → Extent → Type 0
Fits x y read = (read.nodes + x ≤ read.next) × (read.constructs + y ≤ read.next)

-- Something was read.
abbrev pub Beyond : ℕ → Told → Type 0
Beyond at (Ok read) = at < read.next
Beyond at (Err refusal) = Unit {0}
