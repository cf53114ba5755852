-- "No common end" excludes in finished runs alone. The paper's Figure 2(b), from its bytes on: N8 and N9 (nodes 7 and 8) share starts but no end, and
-- are answered 1; a run of two threads has them there together. It cannot finish: the one goes on to N10, the other to N11.
-- Assumes nothing.
use Rattle.std.specs.Prelude.{◌≡◌, refl, true, false, List, [], ◌∷◌, ℕ}
use Rattle.std.proofs.Math.Option.{none}
use Rattle.std.proofs.Math.Decide.{ℕ_discrete, dec_lt}
use Rattle.lists.specs.Truth.{is}
use Rattle.lists.specs.Range.{every, any, count, first}
use Rattle.lists.specs.Tab.{tab}
use Rattle.chart.specs.Format.{outside, field, node_of, edge_of, construct_of, construct_width, construct_bytes, trailer_of, records, last_trailer, decode, node_at, edge_at, construct_at}
use Rattle.chart.specs.Scope.{kind_of, lies_in, scope, encloses, parent_of, lies_at, scope_at}
use Rattle.chart.specs.Region.{Region}
use Rattle.chart.specs.Nested.{is_parallel, region_at, counts_in, lies_within, kept_in, role_in}
use Rattle.chart.specs.Nesting.{may_enclose, encloses_near, same_critical, excluded, wrongly_above, misplaced, misnested}
use Rattle.chart.specs.Reading.{edge_in, inside_at, frame_of, region_of}
use Rattle.chart.specs.Refusal.{bad_edition, bad_marks, bad_counts, bad_lengths, bad_node, bad_outer, bad_node_at, bad_nodes, foreign_number, bad_construct, bad_alone, stray_node, bad_constructs, frames_in, bad_frame, bad_frames, is_barrier, barrier_of, too_many_in, bad_barriers, bad_edge, rises, bad_edge_at, frames_section, joins_sections, bad_edges, first_of, trailer_rows, table_rows, chart_rows}
use Rattle.theory_paths.specs.Reach.{marks?, marks, reaches}
use Rattle.theory_paths.specs.Decide.{reaches_free, reaches_any, returns}
use Rattle.theory_paths.specs.Admission.{cut_off, bad_paths, admit_rows, bad_region, region_rows}
use Rattle.theory_paths.specs.AdmissionLaws.{admitted-well-formed}
use Rattle.theory_paths.specs.Phases.{forward, is_boundary}
use Rattle.theory_team.specs.State.{initial, update, moved, left, took, released}
use Rattle.theory_team.specs.Meets.{Meets}
use Rattle.theory_answers.specs.Answer.{is_in, in_ordered_of, in_section, no_common, no_common_phase, both_in_masters, both_in_single, both_in_ordereds, both_in_section, answer}
use Rattle.theory_answers.specs.Starred.{barrier, plain, edge, chart}
use Rattle.theory_traces.specs.Tests.{is_first, none_ordered, is_untaken, is_opening, is_section_of, all_taken, may_enter, may_pass, may_leave}
use Rattle.theory_traces.specs.Decide.{taking, from_begin, from_end, from_node, decide, apply, allowed}
use Rattle.theory_traces.specs.Replay.{together, reached, begun, gathered, chosen_now, choose, stepped, feed, onward, next, progress, replayed, at_finish, outcome_of, play_of}
use Rattle.theory_traces.proofs.ReplayLaws.{marked-met}
use Rattle.theory_traces.specs.declared.Replayed.TheVariants.{Unfinished}

-- Figure 2(b), node Ni as number i-1 (01: "Charts with known answers").
abbrev pub figure : List ℕ
figure = chart
    (barrier ∷ plain outside ∷ barrier ∷ barrier ∷ plain outside ∷ plain outside ∷ plain outside ∷ plain outside ∷ plain outside ∷ barrier ∷ barrier ∷ plain outside ∷ barrier ∷ [])
    (edge 0 1 ∷ edge 1 2 ∷ edge 1 3 ∷ edge 2 4 ∷ edge 3 5 ∷ edge 4 6 ∷ edge 5 6 ∷ edge 6 7 ∷ edge 6 8 ∷ edge 7 9 ∷ edge 8 10 ∷ edge 9 11 ∷ edge 10 11 ∷ edge 11 12 ∷ [])
    []

abbrev pub figure_region : Region
figure_region = region_of outside (decode figure)

-- Two threads leave N1, go through N2 to the barrier N3, are released there, go through N5 to N7 and part: 0 goes to N8, 1 to N9.
abbrev pub parting : List ℕ
parting = 0 ∷ 1 ∷ 1 ∷ 1 ∷ 0 ∷ 2 ∷ 1 ∷ 2 ∷ 0 ∷ 4 ∷ 1 ∷ 4 ∷ 0 ∷ 6 ∷ 1 ∷ 6 ∷ 0 ∷ 7 ∷ 1 ∷ 8 ∷ []

-- The chart is admitted, and the answer is 1.
pub figure-never : (first_of (region_rows figure outside) ≡ none) × (answer figure_region 7 8 ≡ 1) × (no_common forward figure_region 7 8 ≡ false)
unfolding answer both_in_section both_in_ordereds both_in_single both_in_masters no_common_phase no_common in_ordered_of in_section is_in returns is_boundary
    region_rows bad_region admit_rows bad_paths cut_off reaches_any reaches_free reaches marks marks? chart_rows table_rows trailer_rows first_of bad_edges joins_sections frames_section bad_edge_at rises bad_edge bad_barriers
    too_many_in barrier_of is_barrier bad_frames bad_frame frames_in bad_constructs stray_node bad_alone bad_construct foreign_number bad_nodes bad_node_at bad_outer bad_node bad_lengths bad_counts bad_marks bad_edition
    misnested misplaced wrongly_above excluded same_critical may_enclose encloses_near role_in kept_in lies_within counts_in region_at is_parallel edge_in inside_at frame_of scope_at lies_at parent_of encloses scope lies_in kind_of
    construct_at edge_at node_at decode last_trailer records trailer_of construct_of construct_width construct_bytes edge_of node_of field tab any count first is
figure-never = (refl, refl, refl)

-- The trace is legal to its last entry, and meets the two.
figure-marked : (outcome_of figure_region 2 (replayed figure_region 2 parting) ≡ Unfinished) × ((play_of (replayed figure_region 2 parting)).met 7 8 ≡ true)
unfolding outcome_of play_of at_finish progress next onward feed stepped choose chosen_now gathered begun reached together
    allowed apply decide from_node from_end from_begin taking may_leave may_pass may_enter all_taken is_section_of is_opening is_untaken none_ordered is_first
    in_ordered_of is_in released took left moved update initial role_in lies_within counts_in region_at is_parallel edge_in inside_at frame_of scope_at lies_at
    parent_of encloses scope lies_in kind_of construct_at edge_at node_at decode last_trailer records trailer_of construct_of construct_width construct_bytes
    edge_of node_of field tab every any first is dec_lt ℕ_discrete
figure-marked = (refl, refl)

-- So a run meets what answer 1 excludes.
pub figure-met : Meets figure_region 2 7 8
figure-met = (marked-met figure_region (admitted-well-formed figure outside figure-never.0) 2 parting 7 8 figure-marked.1).0
