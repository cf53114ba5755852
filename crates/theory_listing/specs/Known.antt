-- Listings by hand (02, Note 2), computed: how long the charts are, the bytes of one of them, and refusals, those that come before others among
-- them.
-- Assumes nothing.
use Rattle.std.specs.Prelude.{◌≡◌, refl, List, [], ◌∷◌, ◌++◌, map, ℕ, zero, suc, length, Result, Ok, Err}
use Rattle.lists.specs.Range.{any, count}
use Rattle.chart.specs.Format.{construct_bytes, node_at, construct_at}
use Rattle.chart.specs.Scope.{kind_of, parent_of}
use Rattle.chart.specs.Nested.{is_parallel}
use Rattle.chart.specs.Nesting.{may_enclose, encloses_near, same_critical, excluded, wrongly_above, misplaced, misnested}
use Rattle.chart.specs.Refusal.{bad_counts, bad_node, bad_outer, bad_node_at, bad_nodes, foreign_number, bad_construct, bad_alone, stray_node, bad_constructs, is_barrier, barrier_of, too_many_in, bad_barriers, first_of, numbered}
use Rattle.output.specs.Output.{room_row, output_rows, written, written_by}
use Rattle.chart_writing.specs.Trailer.{trailer_for}
use Rattle.chart_writing.specs.Encode.{flat, encode}
use Rattle.theory_listing.specs.Tree.{node_count, construct_count, first, two, cells, constructs}
use Rattle.theory_listing.specs.Grammar.{put, braced, letter_kind, followed, item_by, block_of, listed}
use Rattle.theory_listing.specs.Meaning.{kind_byte, whole, edges_of, block_bytes}
use Rattle.theory_listing.specs.Call.{block_read, stopped_by, too_many, block_rows, listing_bytes, listing_rows}
use Rattle.chart.specs.declared.format.Refusal.{Refusal}

-- A text, the room for its chart, and what the call answers.
pub record Listing : Type 0 where
  pub text : List ℕ
  pub room : ℕ
  pub gives : Result ℕ Refusal

abbrev listing : List ℕ → ℕ → Result ℕ Refusal → Listing
listing text room gives = record { text = text; room = room; gives = gives }

abbrev refused : ℕ → Result ℕ Refusal
refused number = Err (numbered number)

-- Written: the empty text, s, b, l{}, l{s}, l{b}, l{l{}}, i{}{}, i{s}{}, i{s}{b}, S{}, S{}n, S{s}nS{s}, D{O{s}}, D{O{s}}n, M{s}, C{s},
-- i{}{ss}l{i{}{}b}, D{O{s}C{l{s}}}, l{S{}nC{M{}}}; and S{} with just the room, and with a byte less.
abbrev written-listings : List Listing
written-listings =
    listing [] 4000 (Ok 26)
    ∷ listing (115 ∷ []) 4000 (Ok 32)
    ∷ listing (98 ∷ []) 4000 (Ok 32)
    ∷ listing (108 ∷ 123 ∷ 125 ∷ []) 4000 (Ok 34)
    ∷ listing (108 ∷ 123 ∷ 115 ∷ 125 ∷ []) 4000 (Ok 40)
    ∷ listing (108 ∷ 123 ∷ 98 ∷ 125 ∷ []) 4000 (Ok 40)
    ∷ listing (108 ∷ 123 ∷ 108 ∷ 123 ∷ 125 ∷ 125 ∷ []) 4000 (Ok 42)
    ∷ listing (105 ∷ 123 ∷ 125 ∷ 123 ∷ 125 ∷ []) 4000 (Ok 38)
    ∷ listing (105 ∷ 123 ∷ 115 ∷ 125 ∷ 123 ∷ 125 ∷ []) 4000 (Ok 46)
    ∷ listing (105 ∷ 123 ∷ 115 ∷ 125 ∷ 123 ∷ 98 ∷ 125 ∷ []) 4000 (Ok 52)
    ∷ listing (83 ∷ 123 ∷ 125 ∷ []) 4000 (Ok 48)
    ∷ listing (83 ∷ 123 ∷ 125 ∷ 110 ∷ []) 4000 (Ok 42)
    ∷ listing (83 ∷ 123 ∷ 115 ∷ 125 ∷ 110 ∷ 83 ∷ 123 ∷ 115 ∷ 125 ∷ []) 4000 (Ok 76)
    ∷ listing (68 ∷ 123 ∷ 79 ∷ 123 ∷ 115 ∷ 125 ∷ 125 ∷ []) 4000 (Ok 70)
    ∷ listing (68 ∷ 123 ∷ 79 ∷ 123 ∷ 115 ∷ 125 ∷ 125 ∷ 110 ∷ []) 4000 (Ok 64)
    ∷ listing (77 ∷ 123 ∷ 115 ∷ 125 ∷ []) 4000 (Ok 48)
    ∷ listing (67 ∷ 123 ∷ 115 ∷ 125 ∷ []) 4000 (Ok 48)
    ∷ listing (105 ∷ 123 ∷ 125 ∷ 123 ∷ 115 ∷ 115 ∷ 125 ∷ 108 ∷ 123 ∷ 105 ∷ 123 ∷ 125 ∷ 123 ∷ 125 ∷ 98 ∷ 125 ∷ []) 4000 (Ok 78)
    ∷ listing (68 ∷ 123 ∷ 79 ∷ 123 ∷ 115 ∷ 125 ∷ 67 ∷ 123 ∷ 108 ∷ 123 ∷ 115 ∷ 125 ∷ 125 ∷ 125 ∷ []) 4000 (Ok 100)
    ∷ listing (108 ∷ 123 ∷ 83 ∷ 123 ∷ 125 ∷ 110 ∷ 67 ∷ 123 ∷ 77 ∷ 123 ∷ 125 ∷ 125 ∷ 125 ∷ []) 4000 (Ok 82)
    ∷ listing (83 ∷ 123 ∷ 125 ∷ []) 48 (Ok 48)
    ∷ listing (83 ∷ 123 ∷ 125 ∷ []) 47 (refused 11)
    ∷ []

-- Refused: C{C{}}, C{M{C{}}}, C{S{}}, C{S{}n}, D{b}, S{l{b}}, D{D{}}, D{D{}n}, M{D{}n}, O{}, C{O{}}, D{C{O{}}}; and by the grammar n, S{}nn,
-- M{}n, l{}n, i{}, i{}s{}, {, }, S, S{, l{s, S {}, x.
abbrev refused-listings : List Listing
refused-listings =
    listing (67 ∷ 123 ∷ 67 ∷ 123 ∷ 125 ∷ 125 ∷ []) 4000 (refused 6)
    ∷ listing (67 ∷ 123 ∷ 77 ∷ 123 ∷ 67 ∷ 123 ∷ 125 ∷ 125 ∷ 125 ∷ []) 4000 (refused 6)
    ∷ listing (67 ∷ 123 ∷ 83 ∷ 123 ∷ 125 ∷ 125 ∷ []) 4000 (refused 5)
    ∷ listing (67 ∷ 123 ∷ 83 ∷ 123 ∷ 125 ∷ 110 ∷ 125 ∷ []) 4000 (refused 6)
    ∷ listing (68 ∷ 123 ∷ 98 ∷ 125 ∷ []) 4000 (refused 5)
    ∷ listing (83 ∷ 123 ∷ 108 ∷ 123 ∷ 98 ∷ 125 ∷ 125 ∷ []) 4000 (refused 5)
    ∷ listing (68 ∷ 123 ∷ 68 ∷ 123 ∷ 125 ∷ 125 ∷ []) 4000 (refused 5)
    ∷ listing (68 ∷ 123 ∷ 68 ∷ 123 ∷ 125 ∷ 110 ∷ 125 ∷ []) 4000 (refused 6)
    ∷ listing (77 ∷ 123 ∷ 68 ∷ 123 ∷ 125 ∷ 110 ∷ 125 ∷ []) 4000 (refused 6)
    ∷ listing (79 ∷ 123 ∷ 125 ∷ []) 4000 (refused 6)
    ∷ listing (67 ∷ 123 ∷ 79 ∷ 123 ∷ 125 ∷ 125 ∷ []) 4000 (refused 6)
    ∷ listing (68 ∷ 123 ∷ 67 ∷ 123 ∷ 79 ∷ 123 ∷ 125 ∷ 125 ∷ 125 ∷ []) 4000 (refused 6)
    ∷ listing (110 ∷ []) 4000 (refused 14)
    ∷ listing (83 ∷ 123 ∷ 125 ∷ 110 ∷ 110 ∷ []) 4000 (refused 14)
    ∷ listing (77 ∷ 123 ∷ 125 ∷ 110 ∷ []) 4000 (refused 14)
    ∷ listing (108 ∷ 123 ∷ 125 ∷ 110 ∷ []) 4000 (refused 14)
    ∷ listing (105 ∷ 123 ∷ 125 ∷ []) 4000 (refused 14)
    ∷ listing (105 ∷ 123 ∷ 125 ∷ 115 ∷ 123 ∷ 125 ∷ []) 4000 (refused 14)
    ∷ listing (123 ∷ []) 4000 (refused 14)
    ∷ listing (125 ∷ []) 4000 (refused 14)
    ∷ listing (83 ∷ []) 4000 (refused 14)
    ∷ listing (83 ∷ 123 ∷ []) 4000 (refused 14)
    ∷ listing (108 ∷ 123 ∷ 115 ∷ []) 4000 (refused 14)
    ∷ listing (83 ∷ 32 ∷ 123 ∷ 125 ∷ []) 4000 (refused 14)
    ∷ listing (120 ∷ []) 4000 (refused 14)
    ∷ []

-- A text so many times over.
abbrev times : ℕ → List ℕ → List ℕ
times zero text = []
times (suc n) text = text ++ times n text

-- At the limits: sixteen loops in each other, and seventeen, closed or not, and sixteen before l and before lx; s 190 and 191 times, and then x; b 62
-- and 63 times, and then O{}; C{} 48 and 49 times.
abbrev limit-listings : List Listing
limit-listings =
    listing (times 16 (108 ∷ 123 ∷ []) ++ times 16 (125 ∷ [])) 4000 (Ok 154)
    ∷ listing (times 17 (108 ∷ 123 ∷ []) ++ times 17 (125 ∷ [])) 4000 (refused 15)
    ∷ listing (times 17 (108 ∷ 123 ∷ [])) 4000 (refused 15)
    ∷ listing (times 16 (108 ∷ 123 ∷ []) ++ (108 ∷ [])) 4000 (refused 14)
    ∷ listing (times 16 (108 ∷ 123 ∷ []) ++ (108 ∷ 120 ∷ [])) 4000 (refused 14)
    ∷ listing (times 190 (115 ∷ [])) 4000 (Ok 1166)
    ∷ listing (times 191 (115 ∷ [])) 4000 (refused 16)
    ∷ listing (times 191 (115 ∷ []) ++ (120 ∷ [])) 4000 (refused 14)
    ∷ listing (times 62 (98 ∷ [])) 4000 (Ok 398)
    ∷ listing (times 63 (98 ∷ [])) 4000 (refused 8)
    ∷ listing (times 63 (98 ∷ []) ++ (79 ∷ 123 ∷ 125 ∷ [])) 4000 (refused 6)
    ∷ listing (times 48 (67 ∷ 123 ∷ 125 ∷ [])) 4000 (Ok 794)
    ∷ listing (times 49 (67 ∷ 123 ∷ 125 ∷ [])) 4000 (refused 16)
    ∷ []

abbrev answers : List Listing → List (Result ℕ Refusal)
answers = map (λ l. written_by (listing_rows l.text l.room) (length (listing_bytes l.text)))

abbrev given : List Listing → List (Result ℕ Refusal)
given = map (λ l. l.gives)

known_written : answers written-listings ≡ given written-listings
unfolding any count construct_bytes node_at construct_at kind_of parent_of is_parallel may_enclose encloses_near same_critical excluded wrongly_above misplaced misnested bad_counts bad_node bad_outer bad_node_at bad_nodes foreign_number bad_construct bad_alone stray_node bad_constructs is_barrier barrier_of too_many_in bad_barriers first_of room_row output_rows written written_by flat encode node_count construct_count first two cells constructs put braced letter_kind followed item_by block_of listed kind_byte whole edges_of block_bytes block_read stopped_by too_many block_rows listing_bytes listing_rows
known_written = refl

known-refused : answers refused-listings ≡ given refused-listings
unfolding any count construct_bytes node_at construct_at kind_of parent_of is_parallel may_enclose encloses_near same_critical excluded wrongly_above misplaced misnested bad_counts bad_node bad_outer bad_node_at bad_nodes foreign_number bad_construct bad_alone stray_node bad_constructs is_barrier barrier_of too_many_in bad_barriers first_of room_row output_rows written written_by flat encode node_count construct_count first two cells constructs put braced letter_kind followed item_by block_of listed kind_byte whole edges_of block_bytes block_read stopped_by too_many block_rows listing_bytes listing_rows
known-refused = refl

known-limits : answers limit-listings ≡ given limit-listings
unfolding any count construct_bytes node_at construct_at kind_of parent_of is_parallel may_enclose encloses_near same_critical excluded wrongly_above misplaced misnested bad_counts bad_node bad_outer bad_node_at bad_nodes foreign_number bad_construct bad_alone stray_node bad_constructs is_barrier barrier_of too_many_in bad_barriers first_of room_row output_rows written written_by flat encode node_count construct_count first two cells constructs put braced letter_kind followed item_by block_of listed kind_byte whole edges_of block_bytes block_read stopped_by too_many block_rows listing_bytes listing_rows
known-limits = refl

-- S{s}n is 01's S with a single.
known_bytes : listing_bytes (83 ∷ 123 ∷ 115 ∷ 125 ∷ 110 ∷ [])
    ≡ 1 ∷ 255 ∷ 0 ∷ 0 ∷ 2 ∷ 0 ∷ 0 ∷ 0 ∷ 0 ∷ 0 ∷ 0 ∷ 0 ∷ 3 ∷ 0 ∷ 0 ∷ 0 ∷ 1 ∷ 255 ∷ 0 ∷ 0
    ∷ 0 ∷ 1 ∷ 1 ∷ 2 ∷ 2 ∷ 3 ∷ 3 ∷ 4 ∷ 1 ∷ 255 ∷ 0 ∷ 0
    ∷ 1 ∷ 0 ∷ 5 ∷ 0 ∷ 4 ∷ 0 ∷ 1 ∷ 0 ∷ 48 ∷ 0 ∷ 28 ∷ 0 ∷ 20 ∷ 0 ∷ 0x4F ∷ 0x43 ∷ []
unfolding any count construct_bytes node_at construct_at kind_of parent_of is_parallel may_enclose encloses_near same_critical excluded wrongly_above misplaced misnested bad_counts bad_node bad_outer bad_node_at bad_nodes foreign_number bad_construct bad_alone stray_node bad_constructs is_barrier barrier_of too_many_in bad_barriers first_of room_row output_rows written written_by flat trailer_for encode node_count construct_count first two cells constructs put braced letter_kind followed item_by block_of listed kind_byte whole edges_of block_bytes block_read stopped_by too_many block_rows listing_bytes listing_rows
known_bytes = refl
