-- The refusals of a chart (01: "Refusals by the place where each is checked"), rows 1 to 9: a condition for each row, in 01's words,
-- over the whole chart, and the first row that applies.
-- Assumes nothing.
use Rattle.std.specs.Prelude.{Bool, ◌&&◌, ◌||◌, not, cond, List, [], ◌∷◌, ◌++◌, ℕ, ◌+◌, ◌*◌, ◌-◌, eqb, ltb, leb, length, get_or}
use Rattle.std.proofs.Math.Option.{Option, none, some}
use Rattle.lists.specs.Range.{any, count}
use Rattle.chart.specs.Format.{outside, Node, Construct, Trailer, Decoded, decode, node_at, edge_at, construct_at, construct_bytes, size, trailer_size}
use Rattle.chart.specs.Scope.{barrier_node, begin_node, end_node, master_byte, critical_byte, sections_byte, section_byte, leaving_at, arriving_at}
use Rattle.chart.specs.Nested.{is_parallel}
use Rattle.chart.specs.Nesting.{kinds, misnested}
use Rattle.chart.specs.declared.format.Refusal.{Refusal}
use Rattle.chart.specs.declared.format.Refusal.TheVariants.{TooShort, BadMarks, BadCounts, BadLengths, BadNodes, BadConstructs, BadFrames, BadBarriers, BadEdges, BadPaths, NoRoom, OddClaims, BadNumber, BadGrammar, TooDeep, TooLarge, OldReceipt, NoSpace, NoEdge, BadAccesses, BadSize, BadTrace, NoRegion}

-- Row 2: edition neither 1 nor 2, or closing bytes differ. The bytes 4F 43, read as a field, are 0x434F.
unfoldable pub bad_edition : ℕ → Bool
bad_edition edition = not (eqb edition 1) && not (eqb edition 2)

unfoldable pub bad_marks : Trailer → Bool
bad_marks t = bad_edition t.edition || not (eqb t.closing 0x434F)

-- Row 3: n, e or c outside its limits.
unfoldable pub bad_counts : ℕ → ℕ → ℕ → Bool
bad_counts n e c = (ltb n 2 || ltb 192 n) || ((ltb e 1 || ltb 1024 e) || ltb 48 c)

-- Row 4: length or a distance differs.
unfoldable pub bad_lengths : ℕ → Trailer → Bool
bad_lengths len t =
    not (eqb len (size t.edition t.nodes t.edges t.constructs))
    || (not (eqb t.to-nodes len)
    || (not (eqb t.to-edges (2 * t.edges + construct_bytes t.edition t.constructs + trailer_size))
    || not (eqb t.to-constructs (construct_bytes t.edition t.constructs + trailer_size))))

-- Row 5, of one node: kind over 3; construct number neither below c nor 255; a barrier naming a non-parallel (02, Note 12), where 255 names the
-- outermost region; begin or end with 255.
unfoldable pub bad_node : List Construct → ℕ → ℕ → Bool
bad_node constructs kind number =
    ltb end_node kind
    || ((not (ltb number (length constructs)) && not (eqb number outside))
    || ((eqb kind barrier_node && (not (eqb number outside) && not (is_parallel constructs number)))
    || (leb begin_node kind && eqb number outside)))

-- Row 5, of node x of n: a barrier naming a region at node 0 or n-1 (02, Note 12).
unfoldable pub bad_outer : ℕ → ℕ → ℕ → ℕ → Bool
bad_outer n x kind number = (eqb x 0 || eqb x (n - 1)) && (eqb kind barrier_node && not (eqb number outside))

unfoldable pub bad_node_at : Decoded → ℕ → Bool
bad_node_at D x =
    bad_node D.constructs (node_at D.nodes x).kind (node_at D.nodes x).number
    || bad_outer (length D.nodes) x (node_at D.nodes x).kind (node_at D.nodes x).number

unfoldable pub bad_nodes : Decoded → Bool
bad_nodes D = any (length D.nodes) (bad_node_at D)

-- A number that only constructs of one kind have, not 0 on another kind.
unfoldable pub foreign_number : ℕ → ℕ → ℕ → Bool
foreign_number only kind number = not (eqb kind only) && not (eqb number 0)

-- Row 6, of construct c by itself: kind not 1 to 8; parent not lower and not 255; name not 0 on a non-critical; filter not 0 on a kind other
-- than 2 (02, Note 5).
unfoldable pub bad_construct : ℕ → ℕ → ℕ → ℕ → ℕ → Bool
bad_construct c kind parent name filter =
    (ltb kind 1 || ltb kinds kind)
    || ((not (ltb parent c) && not (eqb parent outside))
    || (foreign_number critical_byte kind name || foreign_number master_byte kind filter))

unfoldable pub bad_alone : List Construct → ℕ → Bool
bad_alone constructs c =
    let k = construct_at constructs c in
    bad_construct c k.kind k.parent k.name k.filter

-- Some construct is of this kind.
unfoldable pub any_of : List Construct → ℕ → Bool
any_of constructs kind = any (length constructs) (λ c. eqb (construct_at constructs c).kind kind)

-- Row 6, of node x: it lies directly in a sections, and is no begin or end (02: a node wrongly in a sections).
unfoldable pub stray_node : Decoded → ℕ → Bool
stray_node D x =
    ltb (node_at D.nodes x).kind begin_node && eqb (construct_at D.constructs (node_at D.nodes x).number).kind sections_byte

-- Row 6: some construct by itself, or nesting broken, or a node wrongly in a sections.
unfoldable pub bad_constructs : Decoded → Bool
bad_constructs D =
    any (length D.constructs) (bad_alone D.constructs)
    || (any (length D.constructs) (misnested D.constructs) || any (length D.nodes) (stray_node D))

-- Row 7: not exactly one begin and one end each. How many of the first n nodes are of a kind and have the number c.
unfoldable pub frames_in : List Node → ℕ → ℕ → ℕ → ℕ
frames_in nodes kind c n = count n (λ x. eqb (node_at nodes x).kind kind && eqb (node_at nodes x).number c)

unfoldable pub bad_frame : Decoded → ℕ → Bool
bad_frame D kind = any (length D.constructs) (λ c. not (eqb (frames_in D.nodes kind c (length D.nodes)) 1))

unfoldable pub bad_frames : Decoded → Bool
bad_frames D = bad_frame D begin_node || bad_frame D end_node

-- Row 8: node 0 or n-1 no barrier; over 64 barriers of one region (02, Note 12).
unfoldable pub is_barrier : List Node → ℕ → Bool
is_barrier nodes x = eqb (node_at nodes x).kind barrier_node

-- Node x is a barrier of the region p: a barrier that names p, or the begin or the end of p.
unfoldable pub barrier_of : List Node → ℕ → ℕ → Bool
barrier_of nodes p x = leb barrier_node (node_at nodes x).kind && eqb (node_at nodes x).number p

unfoldable pub too_many_in : List Node → ℕ → Bool
too_many_in nodes p = ltb 64 (count (length nodes) (barrier_of nodes p))

unfoldable pub bad_barriers : Decoded → Bool
bad_barriers D =
    not (is_barrier D.nodes 0)
    || (not (is_barrier D.nodes (length D.nodes - 1))
    || (too_many_in D.nodes outside || any (length D.constructs) (λ c. is_parallel D.constructs c && too_many_in D.nodes c)))

-- Row 9, of an edge by itself: node number n or more; into Start; out of Finish; scopes (01: sides) unequal.
unfoldable pub bad_edge : List Node → List Construct → ℕ → ℕ → Bool
bad_edge nodes constructs from to =
    (leb (length nodes) from || leb (length nodes) to)
    || (eqb to 0
    || (eqb from (length nodes - 1)
    || not (eqb (leaving_at nodes constructs from) (arriving_at nodes constructs to))))

-- The pair (from, to) is above the pair before it.
unfoldable pub rises : ℕ → ℕ → ℕ → ℕ → Bool
rises from_before to_before from to = ltb from_before from || (eqb from_before from && ltb to_before to)

-- Row 9, of edge i: bad by itself, or not strictly rising by (from, to).
unfoldable pub bad_edge_at : Decoded → ℕ → Bool
bad_edge_at D i =
    bad_edge D.nodes D.constructs (edge_at D.edges i).from (edge_at D.edges i).to
    || (ltb 0 i && not (rises (edge_at D.edges (i - 1)).from (edge_at D.edges (i - 1)).to (edge_at D.edges i).from (edge_at D.edges i).to))

-- Node x is of this kind, begin or end, and frames a section.
unfoldable pub frames_section : Decoded → ℕ → ℕ → Bool
frames_section D kind x =
    eqb (node_at D.nodes x).kind kind && eqb (construct_at D.constructs (node_at D.nodes x).number).kind section_byte

-- Row 9, of edge i: it leads from a section's end to a section's begin, the same section's too.
unfoldable pub joins_sections : Decoded → ℕ → Bool
joins_sections D i = frames_section D end_node (edge_at D.edges i).from && frames_section D begin_node (edge_at D.edges i).to

unfoldable pub bad_edges : Decoded → Bool
bad_edges D = any (length D.edges) (bad_edge_at D) || any (length D.edges) (joins_sections D)

-- The number of a refusal's row, in 01 and 02.
unfoldable pub row_number : Refusal → ℕ
row_number TooShort = 1
row_number BadMarks = 2
row_number BadCounts = 3
row_number BadLengths = 4
row_number BadNodes = 5
row_number BadConstructs = 6
row_number BadFrames = 7
row_number BadBarriers = 8
row_number BadEdges = 9
row_number BadPaths = 10
row_number NoRoom = 11
row_number OddClaims = 12
row_number BadNumber = 13
row_number BadGrammar = 14
row_number TooDeep = 15
row_number TooLarge = 16
row_number OldReceipt = 17
row_number NoSpace = 18
row_number NoEdge = 19
row_number BadAccesses = 20
row_number BadSize = 21
row_number BadTrace = 22
row_number NoRegion = 23

-- The refusal of a row, by its number.
abbrev pub numbered : ℕ → Refusal
numbered number = get_or (TooShort ∷ BadMarks ∷ BadCounts ∷ BadLengths ∷ BadNodes ∷ BadConstructs ∷ BadFrames ∷ BadBarriers ∷ BadEdges ∷ BadPaths ∷ NoRoom ∷ OddClaims ∷ BadNumber ∷ BadGrammar ∷ TooDeep ∷ TooLarge ∷ OldReceipt ∷ NoSpace ∷ NoEdge ∷ BadAccesses ∷ BadSize ∷ BadTrace ∷ NoRegion ∷ []) (number - 1) NoRegion

-- A row of the table: how it refuses, and whether it applies.
pub record Row : Type 0 where
  pub refusal : Refusal
  pub applies : Bool

-- The first row that applies.
unfoldable pub first_of : List Row → Option Refusal
first_of [] = none
first_of (row ∷ rows) = cond row.applies (some row.refusal) (first_of rows)

-- Rows 1 to 4, over the trailer.
unfoldable pub trailer_rows : List ℕ → List Row
trailer_rows s =
    record { refusal = TooShort; applies = ltb (length s) trailer_size }
    ∷ record { refusal = BadMarks; applies = bad_marks (decode s).trailer }
    ∷ record { refusal = BadCounts; applies = bad_counts (decode s).trailer.nodes (decode s).trailer.edges (decode s).trailer.constructs }
    ∷ record { refusal = BadLengths; applies = bad_lengths (length s) (decode s).trailer }
    ∷ []

-- Rows 5 to 9, over the tables.
unfoldable pub table_rows : Decoded → List Row
table_rows D =
    record { refusal = BadNodes; applies = bad_nodes D }
    ∷ record { refusal = BadConstructs; applies = bad_constructs D }
    ∷ record { refusal = BadFrames; applies = bad_frames D }
    ∷ record { refusal = BadBarriers; applies = bad_barriers D }
    ∷ record { refusal = BadEdges; applies = bad_edges D }
    ∷ []

-- Rows 1 to 9. A call's table goes on from here: its own rows are appended.
unfoldable pub chart_rows : List ℕ → List Row
chart_rows s = trailer_rows s ++ table_rows (decode s)
