-- What a chart's numbers mean: kinds of nodes and constructs, where a node lies, its two scopes, what encloses it. What a node is for a
-- region is in specs/Nested.antt.
-- Assumes nothing.
use Rattle.std.specs.Prelude.{◌≢◌, Bool, false, ◌&&◌, ◌||◌, not, cond, List, ℕ, zero, suc, eqb, ltb}
use Rattle.chart.specs.Format.{outside, Node, Construct, node_at, construct_at}
use Rattle.chart.specs.Region.{Kind, single, master, critical, loop, ordered, sections, section, parallel}

-- The kinds of nodes, as bytes; a plain node is 0.
abbrev pub barrier_node : ℕ
barrier_node = 1

abbrev pub begin_node : ℕ
begin_node = 2

abbrev pub end_node : ℕ
end_node = 3

-- The kinds of constructs, as bytes 1 to 8; a loop is 01's do.
abbrev pub single_byte : ℕ
single_byte = 1

abbrev pub master_byte : ℕ
master_byte = 2

abbrev pub critical_byte : ℕ
critical_byte = 3

abbrev pub loop_byte : ℕ
loop_byte = 4

abbrev pub ordered_byte : ℕ
ordered_byte = 5

abbrev pub sections_byte : ℕ
sections_byte = 6

abbrev pub section_byte : ℕ
section_byte = 7

abbrev pub parallel_byte : ℕ
parallel_byte = 8

unfoldable pub kind_of : ℕ → Kind
kind_of byte =
    cond (eqb byte single_byte) single
    (cond (eqb byte master_byte) master (cond (eqb byte loop_byte) loop (cond (eqb byte ordered_byte) ordered
    (cond (eqb byte sections_byte) sections (cond (eqb byte section_byte) section (cond (eqb byte parallel_byte) parallel critical))))))

-- The construct that a node lies in (01: lies in): a begin and an end lie in the parent of their construct, not in it. A plain node or
-- a barrier lies in the construct that its number names. `parent` is the parent of the construct of that number.
unfoldable pub lies_in : ℕ → ℕ → ℕ → ℕ
lies_in kind number parent = cond (ltb kind begin_node) number parent

-- The scope of a node (01: side) is the construct that it lies in, except at nodes of kind `own`, where it is their own construct.
unfoldable pub scope : ℕ → ℕ → ℕ → ℕ → ℕ
scope own kind number parent = cond (eqb kind own) number (lies_in kind number parent)

-- c is the construct p or stands above it (01: around, at any depth). `fuel` bounds the walk upwards.
unfoldable pub encloses : (ℕ → ℕ) → ℕ → ℕ → ℕ → Bool
encloses parent zero p c = false
encloses parent (suc fuel) p c = not (eqb p outside) && (eqb p c || encloses parent fuel (parent p) c)

-- The same as a relation: c is reached from p by going to the parent none or more times.
pub data Encloses (parent : ℕ → ℕ) : ℕ → ℕ → Type 0 where
  here : {c : ℕ} → c ≢ outside → Encloses parent c c
  up : {p c : ℕ} → p ≢ outside → Encloses parent (parent p) c → Encloses parent p c

-- The columns of a chart's tables.
unfoldable pub parent_of : List Construct → ℕ → ℕ
parent_of constructs c = (construct_at constructs c).parent

-- Where node x lies, and its scope, with `own` as above.
unfoldable pub lies_at : List Node → List Construct → ℕ → ℕ
lies_at nodes constructs x = lies_in (node_at nodes x).kind (node_at nodes x).number (parent_of constructs (node_at nodes x).number)

unfoldable pub scope_at : ℕ → List Node → List Construct → ℕ → ℕ
scope_at own nodes constructs x = scope own (node_at nodes x).kind (node_at nodes x).number (parent_of constructs (node_at nodes x).number)

-- Leaving a begin, the scope is the construct opened; arriving at an end, the construct closed.
abbrev pub leaving_at : List Node → List Construct → ℕ → ℕ
leaving_at = scope_at begin_node

abbrev pub arriving_at : List Node → List Construct → ℕ → ℕ
arriving_at = scope_at end_node
