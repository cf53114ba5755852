-- Charts with known locks, from their bytes on, by computation. L has two criticals of one name: the lock of the one can be dropped, in all runs, and
-- that of the other is needed. M has two criticals whose locks can be dropped as far as finished runs go, and not in runs that cannot finish.
-- Assumes nothing.
use Rattle.std.specs.Prelude.{◌≡◌, refl, Bool, true, false, ◌||◌, not, List, [], ◌∷◌, ℕ, eqb}
use Rattle.std.proofs.Math.Option.{none}
use Rattle.lists.specs.Truth.{bad, clash, is, false-if}
use Rattle.lists.specs.Range.{every, any, every-at, count, first}
use Rattle.lists.specs.Tab.{tab}
use Rattle.chart.specs.Format.{outside, field, node_of, edge_of, construct_of, construct_width, construct_bytes, trailer_of, records, last_trailer, decode, node_at, edge_at, construct_at}
use Rattle.chart.specs.Scope.{single_byte, critical_byte, kind_of, lies_in, scope, encloses, parent_of, lies_at, scope_at}
use Rattle.chart.specs.Region.{critical, Region}
use Rattle.chart.specs.Nested.{is_parallel, region_at, counts_in, lies_within, kept_in, role_in}
use Rattle.chart.specs.Nesting.{may_enclose, encloses_near, same_critical, excluded, wrongly_above, misplaced, misnested}
use Rattle.chart.specs.Reading.{edge_in, inside_at, frame_of, region_of}
use Rattle.chart.specs.Refusal.{bad_edition, bad_marks, bad_counts, bad_lengths, bad_node, bad_outer, bad_node_at, bad_nodes, foreign_number, bad_construct, bad_alone, stray_node, bad_constructs, frames_in, bad_frame, bad_frames, is_barrier, barrier_of, too_many_in, bad_barriers, bad_edge, rises, bad_edge_at, frames_section, joins_sections, bad_edges, first_of, trailer_rows, table_rows, chart_rows}
use Rattle.theory_paths.specs.Reach.{marks?, marks, reaches}
use Rattle.theory_paths.specs.Decide.{reaches_free, reaches_any, returns}
use Rattle.theory_paths.specs.Admission.{cut_off, bad_paths, admit_rows, bad_region, region_rows, AdmittedIn}
use Rattle.theory_paths.specs.AdmissionLaws.{admitted-well-formed, admitted-connected}
use Rattle.theory_paths.specs.Phases.{is_boundary}
use Rattle.theory_answers.specs.Answer.{is_in, in_ordered_of, in_section, no_common, no_common_phase, both_in_masters, both_in_single, both_in_ordereds, both_in_section, answer, lacks_thread, answer_in}
use Rattle.theory_answers.specs.Starred.{barrier, plain, begin, end, edge, construct, chart}
use Rattle.theory_answers.specs.declared.Size.TheVariants.{Any, Of}
use Rattle.theory_exact.specs.Barred.{is_barred, is_barred_in}
use Rattle.theory_exact.specs.Droppable.{Enough, AlwaysEnough}
use Rattle.theory_exact.proofs.ChartDropped.{chart-dropped, chart-always-dropped}
use Rattle.theory_calls.specs.Locks.{is_critical, in_named, some_pair, needed, ever_needed, lock_byte, locks_result}
use Rattle.theory_calls.proofs.LocksLaws.{inside-node, needed_of, ever-needed-of, unneeded-droppable, ever-unneeded-droppable, needed-not-enough, ever-needed-not-enough}

-- A critical of a name below 256.
abbrev named : ℕ → ℕ → List ℕ
named parent name = critical_byte ∷ parent ∷ name ∷ 0 ∷ []

-- L. Nodes 1 to 5: a single, in it critical 1 of name 7 around node 3. Node 6: a barrier. Nodes 7 to 9: critical 2 of name 7 around node 8.
abbrev pub chart_l : List ℕ
chart_l = chart (barrier ∷ begin 0 ∷ begin 1 ∷ plain 1 ∷ end 1 ∷ end 0 ∷ barrier ∷ begin 2 ∷ plain 2 ∷ end 2 ∷ barrier ∷ [])
    (edge 0 1 ∷ edge 1 2 ∷ edge 2 3 ∷ edge 3 4 ∷ edge 4 5 ∷ edge 5 6 ∷ edge 6 7 ∷ edge 7 8 ∷ edge 8 9 ∷ edge 9 10 ∷ [])
    (construct single_byte outside ∷ named 0 7 ∷ named outside 7 ∷ [])

-- M. Node 1 parts into two singles, in each a critical of name 7, around nodes 4 and 10; behind each a barrier of its own, 7 and 13.
abbrev pub chart_m : List ℕ
chart_m = chart
    (barrier ∷ plain outside ∷ begin 0 ∷ begin 1 ∷ plain 1 ∷ end 1 ∷ end 0 ∷ barrier ∷ begin 2 ∷ begin 3 ∷ plain 3 ∷ end 3 ∷ end 2 ∷ barrier ∷ barrier ∷ [])
    (edge 0 1 ∷ edge 1 2 ∷ edge 1 8 ∷ edge 2 3 ∷ edge 3 4 ∷ edge 4 5 ∷ edge 5 6 ∷ edge 6 7 ∷ edge 7 14 ∷ edge 8 9 ∷ edge 9 10 ∷ edge 10 11 ∷ edge 11 12 ∷ edge 12 13 ∷ edge 13 14 ∷ [])
    (construct single_byte outside ∷ named 0 7 ∷ construct single_byte outside ∷ named 2 7 ∷ [])

abbrev pub outermost : List ℕ → Region
outermost s = region_of outside (decode s)

-- The charts are admitted, and these are the bytes: 255 for a single, 0 for a lock that is needed, 1 for one that can be dropped as far as finished
-- runs go, 2 for one that can be in all runs. In teams of one thread none is needed.
pub known-locks : (first_of (region_rows chart_l outside) ≡ none)
    × (locks_result (outermost chart_l) Any ≡ 255 ∷ 2 ∷ 0 ∷ [])
    × (locks_result (outermost chart_l) (Of 1) ≡ 255 ∷ 2 ∷ 2 ∷ [])
    × (first_of (region_rows chart_m outside) ≡ none)
    × (locks_result (outermost chart_m) Any ≡ 255 ∷ 1 ∷ 255 ∷ 1 ∷ [])
unfolding locks_result lock_byte needed ever_needed is_barred is_barred_in some_pair in_named is_critical answer_in lacks_thread answer both_in_section both_in_ordereds both_in_single both_in_masters no_common_phase no_common in_ordered_of in_section is_in returns is_boundary
    region_rows bad_region admit_rows bad_paths cut_off reaches_any reaches_free reaches marks marks? chart_rows table_rows trailer_rows first_of bad_edges joins_sections frames_section bad_edge_at rises bad_edge bad_barriers
    too_many_in barrier_of is_barrier bad_frames bad_frame frames_in bad_constructs stray_node bad_alone bad_construct foreign_number bad_nodes bad_node_at bad_outer bad_node bad_lengths bad_counts bad_marks bad_edition
    misnested misplaced wrongly_above excluded same_critical may_enclose encloses_near role_in kept_in lies_within counts_in region_at is_parallel edge_in inside_at frame_of scope_at lies_at parent_of encloses scope lies_in kind_of
    construct_at edge_at node_at decode last_trailer records trailer_of construct_of construct_width construct_bytes edge_of node_of field tab every any count first is
known-locks = (refl, refl, refl, refl, refl)

-- Every critical but those that lock passes a test; and critical c of a chart does not.
abbrev unneeded : (ℕ → Bool) → (ℕ → Bool) → ℕ → Bool
unneeded locks need n = every n (λ c. locks c || not (need c))

known-needs : (unneeded (λ c. eqb c 2) (ever_needed (outermost chart_l) Any) (outermost chart_l).constructs ≡ true)
    × (needed (outermost chart_l) Any 2 ≡ true)
    × ((outermost chart_l).kind 2 ≡ critical)
    × (unneeded (λ c. false) (needed (outermost chart_m) Any) (outermost chart_m).constructs ≡ true)
    × (ever_needed (outermost chart_m) Any 1 ≡ true)
    × ((outermost chart_m).kind 1 ≡ critical)
unfolding ever_needed is_barred needed some_pair in_named answer_in lacks_thread answer both_in_section both_in_ordereds both_in_single both_in_masters no_common_phase no_common in_ordered_of in_section is_in returns is_boundary
    region_rows bad_region admit_rows bad_paths cut_off reaches_any reaches_free reaches marks marks? chart_rows table_rows trailer_rows first_of bad_edges joins_sections frames_section bad_edge_at rises bad_edge bad_barriers
    too_many_in barrier_of is_barrier bad_frames bad_frame frames_in bad_constructs stray_node bad_alone bad_construct foreign_number bad_nodes bad_node_at bad_outer bad_node bad_lengths bad_counts bad_marks bad_edition
    misnested misplaced wrongly_above excluded same_critical may_enclose encloses_near role_in kept_in lies_within counts_in region_at is_parallel edge_in inside_at frame_of scope_at lies_at parent_of encloses scope lies_in kind_of
    construct_at edge_at node_at decode last_trailer records trailer_of construct_of construct_width construct_bytes edge_of node_of field tab every any count first is
known-needs = (refl, refl, refl, refl, refl, refl)

passes : (a b : Bool) → (a || not b) ≡ true → a ≡ false → b ≡ false
passes true b h e = absurd (bad (cc))
passes false true h e = absurd (bad (cc))
passes false false h e = refl

-- a construct that is needed is one of the chart's
module _ (s : List ℕ) (admitted : AdmittedIn s outside) (locks : ℕ → Bool) where
  enough : unneeded locks (needed (outermost s) Any) (outermost s).constructs ≡ true → Enough (outermost s) Any locks
  enough h =
      let W = admitted-well-formed s outside admitted in
      let C = admitted-connected s outside admitted in
      let below = inside-node s outside admitted in
      chart-dropped s outside admitted locks Any (λ c k u. unneeded-droppable W C below Any c k (false-if (λ n.
      clash n (passes (locks c) _ (every-at (outermost s).constructs _ h c (W.inside-below ((needed_of W C below Any c).0 n).in_c)) u))))

  always-enough : unneeded locks (ever_needed (outermost s) Any) (outermost s).constructs ≡ true → AlwaysEnough (outermost s) Any locks
  always-enough h =
      let W = admitted-well-formed s outside admitted in
      let C = admitted-connected s outside admitted in
      let below = inside-node s outside admitted in
      chart-always-dropped s outside admitted locks Any (λ c k u. ever-unneeded-droppable W C below Any c k (false-if (λ n.
      clash n (passes (locks c) _ (every-at (outermost s).constructs _ h c (W.inside-below ((ever-needed-of W C below Any c).0 n).in_c)) u))))

-- L: with the lock of critical 2 alone no run, finished or not, has two threads inside the criticals; without it some finished run has.
pub dropped-L : AlwaysEnough (outermost chart_l) Any (λ c. eqb c 2) × (Enough (outermost chart_l) Any (λ c. false) → ⊥)
dropped-L =
    let admitted = known-locks.0 in (
      always-enough chart_l admitted (λ c. eqb c 2) known-needs.0,
      needed-not-enough (outermost chart_l) 2 known-needs.2 Any
          ((needed_of (admitted-well-formed chart_l outside admitted) (admitted-connected chart_l outside admitted) (inside-node chart_l outside admitted) Any 2).0 known-needs.1),
    )

-- M: with no lock no finished run has; a run that cannot finish has.
pub dropped-M : Enough (outermost chart_m) Any (λ c. false) × (AlwaysEnough (outermost chart_m) Any (λ c. false) → ⊥)
dropped-M =
    let admitted = known-locks.3 in (
      enough chart_m admitted (λ c. false) known-needs.3,
      ever-needed-not-enough (outermost chart_m) 1 known-needs.5 Any
          ((ever-needed-of (admitted-well-formed chart_m outside admitted) (admitted-connected chart_m outside admitted) (inside-node chart_m outside admitted) Any 1).0 known-needs.4),
    )
