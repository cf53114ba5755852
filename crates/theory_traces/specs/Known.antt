-- Traces with known outcomes, by computation from the bytes of their charts on: what each definition gives is what 02's words give by hand.
-- Assumes nothing.
use Rattle.std.specs.Prelude.{◌≡◌, refl, List, [], ◌∷◌, ◌++◌, map, ℕ}
use Rattle.std.proofs.Math.Decide.{ℕ_discrete, dec_lt}
use Rattle.lists.specs.Truth.{is}
use Rattle.lists.specs.Range.{every, any, first}
use Rattle.lists.specs.Rows.{rows_of, rows_by}
use Rattle.lists.specs.Tab.{tab}
use Rattle.chart.specs.Format.{outside, field, node_of, edge_of, construct_of, construct_width, construct_bytes, trailer_of, records, last_trailer, decode, node_at, edge_at, construct_at}
use Rattle.chart.specs.Scope.{single_byte, sections_byte, section_byte, kind_of, lies_in, scope, encloses, parent_of, lies_at, scope_at}
use Rattle.chart.specs.Nested.{is_parallel, region_at, counts_in, lies_within, role_in}
use Rattle.chart.specs.Reading.{edge_in, inside_at, frame_of, region_of}
use Rattle.theory_team.specs.State.{initial, update, moved, left, took, released}
use Rattle.theory_answers.specs.Answer.{is_in, in_ordered_of}
use Rattle.theory_answers.specs.Starred.{barrier, plain, begin, end, edge, construct, chart, chart_k, chart_s, in_row, chart_d, chart_z}
use Rattle.theory_traces.specs.Tests.{is_first, none_ordered, is_untaken, is_opening, is_section_of, all_taken, may_enter, may_pass, may_leave}
use Rattle.theory_traces.specs.Decide.{taking, from_begin, from_end, from_node, decide, apply, allowed}
use Rattle.theory_traces.specs.Replay.{together, reached, begun, gathered, chosen_now, choose, stepped, feed, Progress, onward, next, progress, replayed, at_finish, outcome_of, play_of}
use Rattle.theory_traces.specs.Call.{met_sheet}
use Rattle.theory_traces.specs.declared.Replayed.{Replayed}
use Rattle.theory_traces.specs.declared.Replayed.TheVariants.{Finished, Unfinished, Forbidden}

-- A whole run of S with a single and two threads: both leave Start, 0 goes in, 1 passes and goes on to Finish, 0 follows.
abbrev whole_s : List ℕ
whole_s = 0 ∷ 1 ∷ 1 ∷ 1 ∷ 0 ∷ 2 ∷ 1 ∷ 3 ∷ 1 ∷ 4 ∷ 0 ∷ 3 ∷ 0 ∷ 4 ∷ []

-- 02, Note 1. X: a sections construct with two sections, nodes 2 to 4 and 5 to 6.
abbrev chart_x : List ℕ
chart_x = chart (barrier ∷ begin 0 ∷ begin 1 ∷ plain 1 ∷ end 1 ∷ begin 2 ∷ end 2 ∷ end 0 ∷ barrier ∷ [])
    (edge 0 1 ∷ edge 1 2 ∷ edge 1 5 ∷ edge 2 3 ∷ edge 3 4 ∷ edge 4 7 ∷ edge 5 6 ∷ edge 6 7 ∷ edge 7 8 ∷ [])
    (construct sections_byte outside ∷ construct section_byte 0 ∷ construct section_byte 0 ∷ [])

-- A chart, one of its regions, the size of the team, a trace, and what the replay says.
pub record Entry : Type 0 where
  pub bytes : List ℕ
  pub named : ℕ
  pub team : ℕ
  pub trace : List ℕ
  pub says : Replayed

abbrev single : List ℕ → Replayed → Entry
single trace says = record { bytes = chart_s single_byte in_row; named = outside; team = 2; trace = trace; says = says }

abbrev ordered : List ℕ → Replayed → Entry
ordered trace says = record { bytes = chart_d (edge 5 6 ∷ []); named = outside; team = 2; trace = trace; says = says }

abbrev sections : List ℕ → Replayed → Entry
sections trace says = record { bytes = chart_x; named = outside; team = 2; trace = trace; says = says }

abbrev inner : List ℕ → Replayed → Entry
inner trace says = record { bytes = chart_z; named = 0; team = 2; trace = trace; says = says }

-- S with a single. No entry; a release cut short; one that begins with thread 1; the first thread passes the single; a second one goes in; a whole
-- run; an entry behind its end.
unfoldable pub known : List Entry
known =
    single [] Unfinished
    ∷ single (0 ∷ 1 ∷ []) Unfinished
    ∷ single (1 ∷ 1 ∷ []) (Forbidden 0)
    ∷ single (0 ∷ 1 ∷ 1 ∷ 1 ∷ 0 ∷ 3 ∷ []) (Forbidden 2)
    ∷ single (0 ∷ 1 ∷ 1 ∷ 1 ∷ 0 ∷ 2 ∷ 1 ∷ 2 ∷ []) (Forbidden 3)
    ∷ single whole_s Finished
    ∷ single (whole_s ++ (0 ∷ 1 ∷ [])) (Forbidden 7)
    -- K with one thread: a release is one entry
    ∷ record { bytes = chart_k; named = outside; team = 1; trace = 0 ∷ 1 ∷ 0 ∷ 2 ∷ 0 ∷ 3 ∷ 0 ∷ 4 ∷ []; says = Finished }
    -- D: a second thread into the ordered, and after the first has left it
    ∷ ordered (0 ∷ 1 ∷ 1 ∷ 1 ∷ 0 ∷ 2 ∷ 1 ∷ 2 ∷ 0 ∷ 3 ∷ 1 ∷ 3 ∷ []) (Forbidden 5)
    ∷ ordered (0 ∷ 1 ∷ 1 ∷ 1 ∷ 0 ∷ 2 ∷ 1 ∷ 2 ∷ 0 ∷ 3 ∷ 0 ∷ 4 ∷ 1 ∷ 3 ∷ []) Unfinished
    -- X: a section that is taken; the end left once all are taken, and before
    ∷ sections (0 ∷ 1 ∷ 1 ∷ 1 ∷ 0 ∷ 2 ∷ 1 ∷ 2 ∷ []) (Forbidden 3)
    ∷ sections (0 ∷ 1 ∷ 1 ∷ 1 ∷ 0 ∷ 2 ∷ 1 ∷ 5 ∷ 1 ∷ 6 ∷ 1 ∷ 7 ∷ 1 ∷ 8 ∷ []) Unfinished
    ∷ sections (0 ∷ 1 ∷ 1 ∷ 1 ∷ 0 ∷ 2 ∷ 0 ∷ 3 ∷ 0 ∷ 4 ∷ 0 ∷ 7 ∷ 0 ∷ 8 ∷ []) (Forbidden 6)
    -- Z, its inner region: it begins at node 1; node 7 lies outside
    ∷ inner (0 ∷ 2 ∷ 1 ∷ 2 ∷ 0 ∷ 3 ∷ []) Unfinished
    ∷ inner (0 ∷ 1 ∷ []) (Forbidden 0)
    ∷ inner (0 ∷ 7 ∷ []) (Forbidden 0)
    ∷ []

abbrev replay : Entry → Progress
replay e = replayed (region_of e.named (decode e.bytes)) e.team e.trace

-- Every outcome is as listed; and the whole run of S marks these pairs and no others: 0 with itself, 1 with itself and 2, 2 with 3 and 4, 3 with 4,
-- 4 with itself.
pub known-traces : (map (λ e. outcome_of (region_of e.named (decode e.bytes)) e.team (replay e)) known ≡ map (λ e. e.says) known)
    × (met_sheet 5 (play_of (replay (single whole_s Finished))).met
    ≡ 1 ∷ 0 ∷ 0 ∷ 0 ∷ 0
    ∷ 0 ∷ 1 ∷ 1 ∷ 0 ∷ 0
    ∷ 0 ∷ 1 ∷ 0 ∷ 1 ∷ 1
    ∷ 0 ∷ 0 ∷ 1 ∷ 0 ∷ 1
    ∷ 0 ∷ 0 ∷ 1 ∷ 1 ∷ 1 ∷ [])
unfolding known met_sheet rows_of rows_by outcome_of play_of at_finish progress next onward feed stepped choose chosen_now gathered begun reached together
    allowed apply decide from_node from_end from_begin taking may_leave may_pass may_enter all_taken is_section_of is_opening is_untaken none_ordered is_first
    in_ordered_of is_in released took left moved update initial role_in lies_within counts_in region_at is_parallel edge_in inside_at frame_of scope_at lies_at
    parent_of encloses scope lies_in kind_of construct_at edge_at node_at decode last_trailer records trailer_of construct_of construct_width construct_bytes
    edge_of node_of field tab every any first is dec_lt ℕ_discrete
known-traces = (refl, refl)
