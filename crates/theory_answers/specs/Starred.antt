-- The answers that 01 stars ("Charts with known answers"): one list (`starred`), and one proof over the definitions, from the bytes of each chart on.
-- A second list (`further`) has answers in regions inside regions (02, Note 12) and for teams of one size (02, Note 10).
-- Assumes nothing.
use Rattle.std.specs.Prelude.{◌≡◌, refl, List, [], ◌∷◌, ◌++◌, map, ℕ, ◌+◌, ◌*◌, length}
use Rattle.std.proofs.Math.Option.{Option, none}
use Rattle.lists.specs.Truth.{is}
use Rattle.lists.specs.Range.{any, count, first}
use Rattle.lists.specs.Tab.{tab}
use Rattle.chart.specs.Format.{outside, field, node_of, edge_of, construct_of, construct_width, construct_bytes, trailer_of, records, last_trailer, decode, node_at, edge_at, construct_at}
use Rattle.chart.specs.Scope.{single_byte, master_byte, critical_byte, loop_byte, ordered_byte, parallel_byte, kind_of, lies_in, scope, encloses, parent_of, lies_at, scope_at}
use Rattle.chart.specs.Nested.{is_parallel, region_at, counts_in, lies_within, kept_in, role_in}
use Rattle.chart.specs.Nesting.{may_enclose, encloses_near, same_critical, excluded, wrongly_above, misplaced, misnested}
use Rattle.chart.specs.Reading.{edge_in, inside_at, frame_of, region_of}
use Rattle.chart.specs.Refusal.{bad_edition, bad_marks, bad_counts, bad_lengths, bad_node, bad_outer, bad_node_at, bad_nodes, foreign_number, bad_construct, bad_alone, stray_node, bad_constructs, frames_in, bad_frame, bad_frames, is_barrier, barrier_of, too_many_in, bad_barriers, bad_edge, rises, bad_edge_at, frames_section, joins_sections, bad_edges, first_of, trailer_rows, table_rows, chart_rows}
use Rattle.chart.specs.declared.format.Refusal.{Refusal}
use Rattle.theory_paths.specs.Reach.{marks?, marks, reaches}
use Rattle.theory_paths.specs.Decide.{reaches_free, reaches_any, returns}
use Rattle.theory_paths.specs.Admission.{cut_off, bad_paths, admit_rows, bad_region, region_rows}
use Rattle.theory_paths.specs.Phases.{is_boundary}
use Rattle.theory_answers.specs.Answer.{is_in, in_ordered_of, in_section, no_common, no_common_phase, both_in_masters, both_in_single, both_in_ordereds, both_in_section, answer, lacks_thread, answer_in, answer_for}
use Rattle.theory_answers.specs.declared.Size.{Size}
use Rattle.theory_answers.specs.declared.Size.TheVariants.{Any, Of}

-- The bytes of records: the four kinds of nodes, an edge, a construct. Tags and names are 0.
abbrev pub barrier : List ℕ
barrier = 1 ∷ 255 ∷ 0 ∷ 0 ∷ []

abbrev pub plain : ℕ → List ℕ
plain number = 0 ∷ number ∷ 0 ∷ 0 ∷ []

abbrev pub begin : ℕ → List ℕ
begin number = 2 ∷ number ∷ 0 ∷ 0 ∷ []

abbrev pub end : ℕ → List ℕ
end number = 3 ∷ number ∷ 0 ∷ 0 ∷ []

abbrev pub edge : ℕ → ℕ → List ℕ
edge from to = from ∷ to ∷ []

abbrev pub construct : ℕ → ℕ → List ℕ
construct kind parent = kind ∷ parent ∷ 0 ∷ 0 ∷ []

-- In edition 2: a masked outside everything, for a thread below 256.
abbrev masked : ℕ → List ℕ
masked thread = master_byte ∷ outside ∷ 0 ∷ 0 ∷ thread ∷ 0 ∷ []

-- The trailer of a chart of fewer than 256 bytes with c constructs in b bytes, and such a chart.
abbrev trailer : ℕ → ℕ → ℕ → ℕ → ℕ → List ℕ
trailer edition n e c b = edition ∷ 0 ∷ n ∷ 0 ∷ e ∷ 0 ∷ c ∷ 0 ∷ (4 * n + 2 * e + b + 16) ∷ 0 ∷ (2 * e + b + 16) ∷ 0 ∷ (b + 16) ∷ 0 ∷ 0x4F ∷ 0x43 ∷ []

abbrev joined : List (List ℕ) → List ℕ
joined [] = []
joined (r ∷ rs) = r ++ joined rs

abbrev chart_of : ℕ → List (List ℕ) → List (List ℕ) → List (List ℕ) → List ℕ
chart_of edition nodes edges constructs =
    joined nodes ++ (joined edges ++ (joined constructs ++ trailer edition (length nodes) (length edges) (length constructs) (length (joined constructs))))

abbrev pub chart : List (List ℕ) → List (List ℕ) → List (List ℕ) → List ℕ
chart nodes edges constructs = chart_of 1 nodes edges constructs

-- 01's charts. K.
abbrev pub chart_k : List ℕ
chart_k = chart (barrier ∷ plain outside ∷ barrier ∷ plain outside ∷ barrier ∷ []) (edge 0 1 ∷ edge 1 2 ∷ edge 2 3 ∷ edge 3 1 ∷ edge 3 4 ∷ []) []

-- S of a kind of construct, with its edges in a row or with 3-1 added.
abbrev pub chart_s : ℕ → List (List ℕ) → List ℕ
chart_s kind edges = chart (barrier ∷ begin 0 ∷ plain 0 ∷ end 0 ∷ barrier ∷ []) edges (construct kind outside ∷ [])

abbrev pub in_row : List (List ℕ)
in_row = edge 0 1 ∷ edge 1 2 ∷ edge 2 3 ∷ edge 3 4 ∷ []

abbrev pub and_back : List (List ℕ)
and_back = edge 0 1 ∷ edge 1 2 ∷ edge 2 3 ∷ edge 3 1 ∷ edge 3 4 ∷ []

-- S with node 4 made a barrier.
abbrev chart_b : List ℕ
chart_b = chart (barrier ∷ begin 0 ∷ plain 0 ∷ end 0 ∷ barrier ∷ barrier ∷ [])
    (edge 0 1 ∷ edge 1 2 ∷ edge 2 3 ∷ edge 3 4 ∷ edge 4 1 ∷ edge 4 5 ∷ []) (construct single_byte outside ∷ [])

-- D, with the edges that leave node 5.
abbrev pub chart_d : List (List ℕ) → List ℕ
chart_d last = chart (barrier ∷ begin 0 ∷ begin 1 ∷ plain 1 ∷ end 1 ∷ end 0 ∷ barrier ∷ [])
    (edge 0 1 ∷ edge 1 2 ∷ edge 2 3 ∷ edge 3 4 ∷ edge 4 5 ∷ last) (construct loop_byte outside ∷ construct ordered_byte 0 ∷ [])

-- 02, Note 12. T: a parallel in a single, in it a single, in that a plain node; with edges that leave node 5 for node 3 or not.
abbrev chart_t : List (List ℕ) → List ℕ
chart_t back = chart (barrier ∷ begin 0 ∷ begin 1 ∷ begin 2 ∷ plain 2 ∷ end 2 ∷ end 1 ∷ end 0 ∷ barrier ∷ [])
    (edge 0 1 ∷ edge 1 2 ∷ edge 2 3 ∷ edge 3 4 ∷ edge 4 5 ∷ (back ++ (edge 5 6 ∷ edge 6 7 ∷ edge 7 8 ∷ [])))
    (construct single_byte outside ∷ construct parallel_byte 0 ∷ construct single_byte 1 ∷ [])

-- U: a single in a parallel that is entered again.
abbrev chart_u : List ℕ
chart_u = chart (barrier ∷ begin 0 ∷ begin 1 ∷ plain 1 ∷ end 1 ∷ end 0 ∷ barrier ∷ [])
    (edge 0 1 ∷ edge 1 2 ∷ edge 2 3 ∷ edge 3 4 ∷ edge 4 5 ∷ edge 5 1 ∷ edge 5 6 ∷ []) (construct parallel_byte outside ∷ construct single_byte 0 ∷ [])

-- A barrier of a parallel's region.
abbrev inner : ℕ → List ℕ
inner number = 1 ∷ number ∷ 0 ∷ 0 ∷ []

-- Z: a single and a barrier in a parallel. W: a parallel whose begin is not its lowest barrier.
abbrev pub chart_z : List ℕ
chart_z = chart (barrier ∷ begin 0 ∷ begin 1 ∷ plain 1 ∷ end 1 ∷ inner 0 ∷ end 0 ∷ barrier ∷ [])
    (edge 0 1 ∷ edge 1 2 ∷ edge 2 3 ∷ edge 3 4 ∷ edge 4 5 ∷ edge 5 6 ∷ edge 6 7 ∷ []) (construct parallel_byte outside ∷ construct single_byte 0 ∷ [])

abbrev chart_w : List ℕ
chart_w = chart (barrier ∷ inner 0 ∷ begin 0 ∷ end 0 ∷ plain 0 ∷ barrier ∷ [])
    (edge 0 2 ∷ edge 1 3 ∷ edge 2 4 ∷ edge 3 5 ∷ edge 4 1 ∷ []) (construct parallel_byte outside ∷ [])

-- 02, Note 10. Y: two masked constructs, for threads 1 and 2.
abbrev chart_y : List ℕ
chart_y = chart_of 2 (barrier ∷ begin 0 ∷ plain 0 ∷ end 0 ∷ begin 1 ∷ plain 1 ∷ end 1 ∷ barrier ∷ [])
    (edge 0 1 ∷ edge 1 2 ∷ edge 2 3 ∷ edge 3 4 ∷ edge 4 5 ∷ edge 5 6 ∷ edge 6 7 ∷ []) (masked 1 ∷ masked 2 ∷ [])

-- The bytes of S with a single, one by one: what the functions above build.
bytes-S : chart_s single_byte in_row
    ≡ 0x01 ∷ 0xFF ∷ 0x00 ∷ 0x00 ∷ 0x02 ∷ 0x00 ∷ 0x00 ∷ 0x00 ∷ 0x00 ∷ 0x00 ∷ 0x00 ∷ 0x00 ∷ 0x03 ∷ 0x00 ∷ 0x00 ∷ 0x00 ∷ 0x01 ∷ 0xFF ∷ 0x00 ∷ 0x00
    ∷ 0x00 ∷ 0x01 ∷ 0x01 ∷ 0x02 ∷ 0x02 ∷ 0x03 ∷ 0x03 ∷ 0x04 ∷ 0x01 ∷ 0xFF ∷ 0x00 ∷ 0x00
    ∷ 0x01 ∷ 0x00 ∷ 0x05 ∷ 0x00 ∷ 0x04 ∷ 0x00 ∷ 0x01 ∷ 0x00 ∷ 0x30 ∷ 0x00 ∷ 0x1C ∷ 0x00 ∷ 0x14 ∷ 0x00 ∷ 0x4F ∷ 0x43 ∷ []
bytes-S = refl

-- A chart, one of its regions, the teams that are asked about, two nodes, and the answer that 01 or 02 gives.
pub record Entry : Type 0 where
  pub bytes : List ℕ
  pub named : ℕ
  pub teams : Size
  pub a : ℕ
  pub b : ℕ
  pub gives : ℕ

-- The 11 answers that 01 stars.
unfoldable pub starred : List Entry
starred =
    record { bytes = chart_k; named = outside; teams = Any; a = 1; b = 3; gives = 0 }
    ∷ record { bytes = chart_s single_byte in_row; named = outside; teams = Any; a = 2; b = 2; gives = 3 }
    ∷ record { bytes = chart_s single_byte in_row; named = outside; teams = Any; a = 1; b = 2; gives = 0 }
    ∷ record { bytes = chart_s single_byte in_row; named = outside; teams = Any; a = 3; b = 3; gives = 0 }
    ∷ record { bytes = chart_s single_byte and_back; named = outside; teams = Any; a = 2; b = 2; gives = 0 }
    ∷ record { bytes = chart_s master_byte and_back; named = outside; teams = Any; a = 2; b = 2; gives = 2 }
    ∷ record { bytes = chart_s critical_byte in_row; named = outside; teams = Any; a = 2; b = 2; gives = 0 }
    ∷ record { bytes = chart_d (edge 5 6 ∷ []); named = outside; teams = Any; a = 3; b = 3; gives = 4 }
    ∷ record { bytes = chart_d (edge 5 6 ∷ []); named = outside; teams = Any; a = 2; b = 3; gives = 0 }
    ∷ record { bytes = chart_d (edge 5 1 ∷ edge 5 6 ∷ []); named = outside; teams = Any; a = 3; b = 3; gives = 0 }
    ∷ record { bytes = chart_b; named = outside; teams = Any; a = 2; b = 2; gives = 3 }
    ∷ []

-- Answers that 02 gives: of regions, and of sizes.
unfoldable pub further : List Entry
further =
    record { bytes = chart_t []; named = outside; teams = Any; a = 4; b = 4; gives = 3 }
    ∷ record { bytes = chart_t []; named = outside; teams = Any; a = 3; b = 3; gives = 3 }
    ∷ record { bytes = chart_t []; named = 1; teams = Any; a = 4; b = 4; gives = 3 }
    ∷ record { bytes = chart_t []; named = 1; teams = Any; a = 3; b = 3; gives = 0 }
    ∷ record { bytes = chart_t (edge 5 3 ∷ []); named = 1; teams = Any; a = 4; b = 4; gives = 0 }
    ∷ record { bytes = chart_t (edge 5 3 ∷ []); named = outside; teams = Any; a = 4; b = 4; gives = 3 }
    ∷ record { bytes = chart_u; named = 0; teams = Any; a = 3; b = 3; gives = 3 }
    ∷ record { bytes = chart_u; named = outside; teams = Any; a = 3; b = 3; gives = 0 }
    ∷ record { bytes = chart_z; named = outside; teams = Any; a = 3; b = 3; gives = 0 }
    ∷ record { bytes = chart_z; named = 0; teams = Any; a = 3; b = 3; gives = 3 }
    ∷ record { bytes = chart_z; named = outside; teams = Any; a = 5; b = 5; gives = 0 }
    ∷ record { bytes = chart_w; named = 0; teams = Any; a = 4; b = 4; gives = 0 }
    ∷ record { bytes = chart_y; named = outside; teams = Any; a = 2; b = 5; gives = 0 }
    ∷ record { bytes = chart_y; named = outside; teams = Of 1; a = 2; b = 5; gives = 6 }
    ∷ record { bytes = chart_y; named = outside; teams = Of 2; a = 2; b = 5; gives = 7 }
    ∷ record { bytes = chart_y; named = outside; teams = Of 2; a = 2; b = 2; gives = 2 }
    ∷ record { bytes = chart_y; named = outside; teams = Of 3; a = 2; b = 5; gives = 0 }
    ∷ record { bytes = chart_s single_byte in_row; named = outside; teams = Of 1; a = 2; b = 2; gives = 6 }
    ∷ record { bytes = chart_s single_byte in_row; named = outside; teams = Of 2; a = 2; b = 2; gives = 3 }
    ∷ record { bytes = chart_k; named = outside; teams = Of 2; a = 1; b = 3; gives = 0 }
    ∷ []

-- What the definitions give for an entry: the row that refuses its chart, and its answer.
unfoldable pub computed : Entry → Option Refusal × ℕ
computed e = (first_of (region_rows e.bytes e.named), answer_for (region_of e.named (decode e.bytes)) e.teams e.a e.b)

-- Every chart of the lists is admitted and has the region, and every answer is 01's or 02's.
pub starred-answers : map computed starred ≡ map (λ e. (none, e.gives)) starred
unfolding starred computed answer_in lacks_thread answer both_in_section both_in_ordereds both_in_single both_in_masters no_common_phase no_common in_ordered_of in_section is_in returns is_boundary
    region_rows bad_region admit_rows bad_paths cut_off reaches_any reaches_free reaches marks marks? chart_rows table_rows trailer_rows first_of bad_edges joins_sections frames_section bad_edge_at rises bad_edge bad_barriers
    too_many_in barrier_of is_barrier bad_frames bad_frame frames_in bad_constructs stray_node bad_alone bad_construct foreign_number bad_nodes bad_node_at bad_outer bad_node bad_lengths bad_counts bad_marks bad_edition
    misnested misplaced wrongly_above excluded same_critical may_enclose encloses_near role_in kept_in lies_within counts_in region_at is_parallel edge_in inside_at frame_of scope_at lies_at parent_of encloses scope lies_in kind_of
    construct_at edge_at node_at decode last_trailer records trailer_of construct_of construct_width construct_bytes edge_of node_of field tab any count first is
starred-answers = refl

pub further-answers : map computed further ≡ map (λ e. (none, e.gives)) further
unfolding further computed answer_in lacks_thread answer both_in_section both_in_ordereds both_in_single both_in_masters no_common_phase no_common in_ordered_of in_section is_in returns is_boundary
    region_rows bad_region admit_rows bad_paths cut_off reaches_any reaches_free reaches marks marks? chart_rows table_rows trailer_rows first_of bad_edges joins_sections frames_section bad_edge_at rises bad_edge bad_barriers
    too_many_in barrier_of is_barrier bad_frames bad_frame frames_in bad_constructs stray_node bad_alone bad_construct foreign_number bad_nodes bad_node_at bad_outer bad_node bad_lengths bad_counts bad_marks bad_edition
    misnested misplaced wrongly_above excluded same_critical may_enclose encloses_near role_in kept_in lies_within counts_in region_at is_parallel edge_in inside_at frame_of scope_at lies_at parent_of encloses scope lies_in kind_of
    construct_at edge_at node_at decode last_trailer records trailer_of construct_of construct_width construct_bytes edge_of node_of field tab any count first is
further-answers = refl
