-- Locks are kept by runs that matter: on chart S with a critical, from its bytes on, a team of two has a finished run that keeps them, with one thread
-- at the critical's begin while the other is inside.
-- Assumes nothing.
use Rattle.std.specs.Prelude.{◌≡◌, refl, ◌≢◌, true, false, List, ℕ, suc, zero, ◌<◌}
use Rattle.std.proofs.Common.{sym, subst, ◌∙◌, arith}
use Rattle.std.proofs.Math.Option.{none}
use Rattle.std.proofs.Math.Decide.{ℕ_discrete, dec_lt}
use Rattle.lists.specs.Truth.{bad, clash, is, false-if}
use Rattle.lists.specs.Range.{any, count, first}
use Rattle.lists.specs.Tab.{tab}
use Rattle.chart.specs.Format.{outside, field, node_of, edge_of, construct_of, construct_width, construct_bytes, trailer_of, records, last_trailer, decode, node_at, edge_at, construct_at}
use Rattle.chart.specs.Scope.{critical_byte, kind_of, lies_in, scope, encloses, parent_of, lies_at, scope_at}
use Rattle.chart.specs.Region.{Role, plain, barrier, opens, closes, critical, Region}
use Rattle.chart.specs.Nested.{is_parallel, region_at, counts_in, lies_within, kept_in, role_in}
use Rattle.chart.specs.Nesting.{may_enclose, encloses_near, same_critical, excluded, wrongly_above, misplaced, misnested}
use Rattle.chart.specs.Reading.{edge_in, inside_at, frame_of, region_of}
use Rattle.chart.specs.Refusal.{bad_edition, bad_marks, bad_counts, bad_lengths, bad_node, bad_outer, bad_node_at, bad_nodes, foreign_number, bad_construct, bad_alone, stray_node, bad_constructs, frames_in, bad_frame, bad_frames, is_barrier, barrier_of, too_many_in, bad_barriers, bad_edge, rises, bad_edge_at, frames_section, joins_sections, bad_edges, first_of, trailer_rows, table_rows, chart_rows}
use Rattle.theory_paths.specs.Reach.{marks?, marks, reaches}
use Rattle.theory_paths.specs.Decide.{reaches_free, reaches_any}
use Rattle.theory_paths.specs.Admission.{cut_off, bad_paths, admit_rows, bad_region, region_rows}
use Rattle.theory_paths.specs.AdmissionLaws.{admitted-well-formed}
use Rattle.theory_team.specs.State.{State, initial, update, moved, left, released}
use Rattle.theory_team.specs.Step.{MayMove, MayEnter, move, enter, one, release}
use Rattle.theory_team.specs.Run.{Run, done, step, now, later}
use Rattle.theory_team.specs.Locks.{InCritical, Unlocked, LockedIn}
use Rattle.theory_answers.specs.Starred.{chart_s, in_row}

-- What is read of the chart: nodes 0 to 4 in a row, a critical from 1 to 3 between two barriers.
record Row (R : Region) : Type 0 where
  start : R.start ≡ 0
  finish : R.finish ≡ 4
  starts : R.role 0 ≡ barrier
  begins : R.role 1 ≡ opens 0
  within : R.role 2 ≡ plain
  ends : R.role 3 ≡ closes 0
  kind : R.kind 0 ≡ critical
  to-begin : R.edge 0 1 ≡ true
  to_inside : R.edge 1 2 ≡ true
  to_end : R.edge 2 3 ≡ true
  to-finish : R.edge 3 4 ≡ true
  -- neither the begin nor Finish is inside a construct
  begin-outside : (c : ℕ) → R.inside 1 c ≡ false
  finish-outside : (c : ℕ) → R.inside 4 c ≡ false

by_two : (P : ℕ → Type 0) → P 0 → P 1 → (k : ℕ) → k < 2 → P k
by_two P a b zero l = a
by_two P a b (suc zero) l = b
by_two P a b (suc (suc k)) l = absurd (omega arith)

module _ {R : Region} (S : Row R) where
  -- Both leave Start for the begin; thread 0 goes in, through and to Finish; then thread 1 does.
  abbrev both : State
  both = released 2 (initial R) (λ t. 1)

  abbrev waiting : State
  waiting = left both 0 0 2

  abbrev passing : State
  passing = moved waiting 0 3

  abbrev gone : State
  gone = moved passing 0 4

  abbrev second : State
  second = left gone 1 0 2

  abbrev ending : State
  ending = moved second 1 3

  abbrev final : State
  final = moved ending 1 4

  may-enter : (σ : State) (t : ℕ) → MayEnter R 2 σ t 0 (R.kind 0)
  may-enter σ t = subst (MayEnter R 2 σ t 0) (sym S.kind) tt

  through : (σ : State) (t : ℕ) → MayMove R 2 σ t (R.role 2)
  through σ t = subst (MayMove R 2 σ t) (sym S.within) tt

  out : (σ : State) (t : ℕ) → MayMove R 2 σ t (R.role 3)
  out σ t = subst (MayMove R 2 σ t) (sym S.ends) (λ q. let k = S.kind in absurd (bad (cc)))

  unfoldable run : Run R 2 (initial R) final
  unfolding initial released left moved update is dec_lt ℕ_discrete
  run = step (release 0 (λ t. 1) S.starts (λ e. omega (arith, S.finish)) (λ t l. S.start) (λ t l. S.to-begin))
      (step (one {t = 0} {v = 2} (omega arith) (enter {c = 0} S.begins (may-enter both 0) S.to_inside))
      (step (one {t = 0} {v = 3} (omega arith) (move (through waiting 0) S.to_end))
      (step (one {t = 0} {v = 4} (omega arith) (move (out passing 0) S.to-finish))
      (step (one {t = 1} {v = 2} (omega arith) (enter {c = 0} S.begins (may-enter gone 1) S.to_inside))
      (step (one {t = 1} {v = 3} (omega arith) (move (through second 1) S.to_end))
      (step (one {t = 1} {v = 4} (omega arith) (move (out ending 1) S.to-finish)) done))))))

  -- a thread that leaves a node which is no begin takes no lock
  no-begin : {x c : ℕ} {r : Role} → R.role x ≡ r → ((d : ℕ) → r ≢ opens d) → R.role x ≡ opens c → ⊥
  no-begin {c = c} e n o = n c (sym e ∙ o)

  outside-none : {x name : ℕ} → ((c : ℕ) → R.inside x c ≡ false) → InCritical R x name → ⊥
  outside-none f I = clash I.within (f I.construct)

  -- thread 0 goes in while thread 1 waits at the begin, and thread 1 once thread 0 is at Finish
  first-in : (name : ℕ) → Unlocked R 2 both 0 name
  unfolding released is dec_lt
  first-in name = by_two (λ k. k ≢ 0 → InCritical R (both.node k) name → ⊥) (λ n I. n refl) (λ n I. outside-none S.begin-outside I)

  then-second : (name : ℕ) → Unlocked R 2 gone 1 name
  unfolding left moved update is ℕ_discrete
  then-second name = by_two (λ k. k ≢ 1 → InCritical R (gone.node k) name → ⊥) (λ n I. outside-none S.finish-outside I) (λ n I. n refl)

  at-finish : (t : ℕ) → t < 2 → final.node t ≡ R.finish
  unfolding left moved update is ℕ_discrete
  at-finish = by_two (λ t. final.node t ≡ R.finish) (sym S.finish) (sym S.finish)

  row-locked : LockedIn R 2 1 2
  unfolding run released left moved update is dec_lt ℕ_discrete
  row-locked = record {
    concurrent = record {
      final = final;
      run = run;
      finished = at-finish;
      state = waiting;
      passed = later (later now);
      t = 1;
      u = 0;
      t-in = omega arith;
      u-in = omega arith;
      differ = λ e. omega arith;
      at_a = refl;
      at_b = refl;
    };
    locked = (
      tt,
      (
        (λ c o q. first-in (R.name c)),
        (
          (λ c o. absurd (inside c o)),
          (
            (λ c o. absurd (end c o)),
            ((λ c o q. then-second (R.name c)), ((λ c o. absurd (inside c o)), ((λ c o. absurd (end c o)), tt))),
          ),
        ),
      ),
    );
  }
    where
      inside : (c : ℕ) → R.role 2 ≡ opens c → ⊥
      inside c o = no-begin S.within (λ d e. bad (cc)) o

      end : (c : ℕ) → R.role 3 ≡ opens c → ⊥
      end c o = no-begin S.ends (λ d e. bad (cc)) o

abbrev pub chart_critical : List ℕ
chart_critical = chart_s critical_byte in_row

abbrev pub critical_region : Region
critical_region = region_of outside (decode chart_critical)

critical-admitted : first_of (region_rows chart_critical outside) ≡ none
unfolding region_rows bad_region admit_rows bad_paths cut_off reaches_any reaches_free reaches marks marks? chart_rows table_rows trailer_rows first_of bad_edges joins_sections frames_section bad_edge_at rises bad_edge bad_barriers
    too_many_in barrier_of is_barrier bad_frames bad_frame frames_in bad_constructs stray_node bad_alone bad_construct foreign_number bad_nodes bad_node_at bad_outer bad_node bad_lengths bad_counts bad_marks bad_edition
    misnested misplaced wrongly_above excluded same_critical may_enclose encloses_near role_in kept_in lies_within counts_in region_at is_parallel edge_in inside_at frame_of scope_at lies_at parent_of encloses scope lies_in kind_of
    construct_at edge_at node_at decode last_trailer records trailer_of construct_of construct_width construct_bytes edge_of node_of field tab any count first is
critical-admitted = refl

critical-outside : (critical_region.inside 1 0 ≡ false) × (critical_region.inside 4 0 ≡ false) × (critical_region.constructs ≡ 1)
unfolding region_rows bad_region admit_rows bad_paths cut_off reaches_any reaches_free reaches marks marks? chart_rows table_rows trailer_rows first_of bad_edges joins_sections frames_section bad_edge_at rises bad_edge bad_barriers
    too_many_in barrier_of is_barrier bad_frames bad_frame frames_in bad_constructs stray_node bad_alone bad_construct foreign_number bad_nodes bad_node_at bad_outer bad_node bad_lengths bad_counts bad_marks bad_edition
    misnested misplaced wrongly_above excluded same_critical may_enclose encloses_near role_in kept_in lies_within counts_in region_at is_parallel edge_in inside_at frame_of scope_at lies_at parent_of encloses scope lies_in kind_of
    construct_at edge_at node_at decode last_trailer records trailer_of construct_of construct_width construct_bytes edge_of node_of field tab any count first is
critical-outside = (refl, refl, refl)

-- what is inside a construct is inside the only one
outside-all : (x : ℕ) → critical_region.inside x 0 ≡ false → (c : ℕ) → critical_region.inside x c ≡ false
outside-all x f c = false-if (λ h.
    let l : c < 1 = subst (λ (n : ℕ). c < n) critical-outside.2 ((admitted-well-formed chart_critical outside critical-admitted).inside-below h) in
    let e : c ≡ 0 = omega arith in
    clash (subst (λ (d : ℕ). critical_region.inside x d ≡ true) e h) f)

critical-row : Row critical_region
unfolding region_rows bad_region admit_rows bad_paths cut_off reaches_any reaches_free reaches marks marks? chart_rows table_rows trailer_rows first_of bad_edges joins_sections frames_section bad_edge_at rises bad_edge bad_barriers
    too_many_in barrier_of is_barrier bad_frames bad_frame frames_in bad_constructs stray_node bad_alone bad_construct foreign_number bad_nodes bad_node_at bad_outer bad_node bad_lengths bad_counts bad_marks bad_edition
    misnested misplaced wrongly_above excluded same_critical may_enclose encloses_near role_in kept_in lies_within counts_in region_at is_parallel edge_in inside_at frame_of scope_at lies_at parent_of encloses scope lies_in kind_of
    construct_at edge_at node_at decode last_trailer records trailer_of construct_of construct_width construct_bytes edge_of node_of field tab any count first is
critical-row = record {
  start = refl;
  finish = refl;
  starts = refl;
  begins = refl;
  within = refl;
  ends = refl;
  kind = refl;
  to-begin = refl;
  to_inside = refl;
  to_end = refl;
  to-finish = refl;
  begin-outside = outside-all 1 critical-outside.0;
  finish-outside = outside-all 4 critical-outside.1;
}

-- With locks, the critical's begin and the node inside it are concurrent in a team of two.
pub critical-locked : LockedIn critical_region 2 1 2
critical-locked = row-locked critical-row
