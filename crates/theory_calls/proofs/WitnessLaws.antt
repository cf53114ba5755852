-- What is computed of a trace is what it is by the team rules; a witness is a concurrent pair, and every concurrent pair of a team of up to 256 threads
-- has one.
-- Assumes nothing.
use Rattle.std.specs.Prelude.{◌≡◌, refl, ◌↔◌, Bool, false, ◌&&◌, cond, List, [], ℕ, ◌+◌, ◌*◌, ◌/◌, ◌%◌, ◌≤◌, ◌<◌, eqb, length, get_or, Ok}
use Rattle.std.proofs.Common.{sym, arith, eq-eqb, ne_eqb}
use Rattle.std.proofs.Math.Path.{subst}
use Rattle.std.proofs.Math.Bool.{true}
use Rattle.std.proofs.Math.Option.{none}
use Rattle.lists.specs.Truth.{bad, and_both, both-and}
use Rattle.chart.specs.Format.{decode}
use Rattle.chart.specs.Region.{Region}
use Rattle.chart.specs.Reading.{region_of}
use Rattle.chart.specs.Refusal.{first_of}
use Rattle.chart.specs.WellFormed.{WellFormed}
use Rattle.theory_paths.specs.Connected.{Connected}
use Rattle.theory_team.specs.State.{State}
use Rattle.theory_team.specs.Run.{Finished, ConcurrentIn}
use Rattle.theory_traces.specs.Legal.{Legal, begins, steps, chooses, releases, MetBy}
use Rattle.theory_traces.specs.Replay.{Play, Progress, going, stopped, replayed, at_finish, outcome_of, play_of}
use Rattle.theory_traces.proofs.ReplayLaws.{finish-of, ended, marked-concurrent}
use Rattle.theory_traces.proofs.EveryRun.{every-run-replays}
use Rattle.theory_traces.proofs.LegalLaws.{FollowsTo, progress-follows, legal-comes, met-marked}
use Rattle.theory_traces.specs.Call.{replay_rows, answered, final, replay_answer, sheet_left}
use Rattle.theory_traces.proofs.CallLaws.{sheet-marks}
use Rattle.theory_traces.specs.declared.Replayed.{Replayed}
use Rattle.theory_traces.specs.declared.Replayed.TheVariants.{Finished as Ended, Unfinished, Forbidden}
use Rattle.theory_calls.specs.Witness.{Witness, is_ended, is_witness}

is-ended : (r : Replayed) → is_ended (Ok r) ≡ true → r ≡ Ended
is-ended Ended h = refl
is-ended Unfinished h = absurd (bad (cc))
is-ended (Forbidden index) h = absurd (bad (cc))

module _ (R : Region) (W : WellFormed R) (m : ℕ) (least : 1 ≤ m) (trace : List ℕ) where
  -- at finish nothing is chosen: a release goes on from another barrier
  none-chosen : {k : ℕ} {σ : State} {nodes : List ℕ} → Legal R m trace k σ nodes → Finished R m σ → nodes ≡ []
  none-chosen begins f = refl
  none-chosen (steps L l s) f = refl
  none-chosen (chooses L C short) f = absurd (C.gathered.going_on (f 0 least))
  none-chosen (releases L C whole) f = refl

  -- a replay that has ended went on to the last entry
  to_end : {k : ℕ} (p : Progress) → FollowsTo R W m least trace k p → outcome_of R m p ≡ Ended
      → Legal R m trace k (play_of p).state (play_of p).chosen × ((a b : ℕ) → (play_of p).met a b ≡ true → MetBy R m trace k a b)
  unfolding outcome_of play_of
  to_end (going P) F q = (F.legal, F.marks)
  to_end (stopped P i) S q = absurd (bad (cc))

  -- and one that goes on to a state with every thread at finish has ended
  from_end : {play : Play} → replayed R m trace ≡ going play → at_finish R m play.state ≡ true → is_ended (Ok (outcome_of R m (replayed R m trace))) ≡ true
  unfolding outcome_of
  from_end came at = rw (came, at)

  module _ (a b : ℕ) where
    -- The test is the relation.
    pub witness-of : (is_witness R m trace a b ≡ true) ↔ Witness R m trace a b
    unfolding is_witness
    witness-of = ((λ h. let (e, g) = and_both _ _ h in to (is-ended _ e) g), from)
      where
        to : outcome_of R m (replayed R m trace) ≡ Ended → (play_of (replayed R m trace)).met a b ≡ true → Witness R m trace a b
        to e g =
            let (L, marks) = to_end (replayed R m trace) (progress-follows R W m least trace (length trace / 2)) e in
            let f = ended R W m (replayed R m trace) e in
            record {
              final = (play_of (replayed R m trace)).state;
              legal = subst (Legal R m trace (length trace / 2) (play_of (replayed R m trace)).state) (none-chosen L f) L;
              finished = f;
              met = marks a b g;
            }

        from : Witness R m trace a b → is_witness R m trace a b ≡ true
        from w =
            let C = legal-comes R W m least trace w.legal in
            let f : Finished R m C.play.state = subst (Finished R m) (sym C.same-state) w.finished in
            both-and _ _ (from_end C.came ((finish-of R W m C.play.state).1 f)) (met-marked R W m least trace w.met)

    -- A witness shows the pair concurrent, in a team of its size.
    pub witness-concurrent : Witness R m trace a b → ConcurrentIn R m a b
    unfolding is_witness
    witness-concurrent w = let (e, g) = and_both _ _ (witness-of.1 w) in marked-concurrent R W m trace a b (is-ended _ e) g

-- Every concurrent pair of a team of up to 256 threads has one, of bytes.
pub concurrent-witness : (R : Region) (W : WellFormed R) (C : Connected R) (m : ℕ) (least : 1 ≤ m) → m ≤ 256 → R.nodes ≤ 256 → (a b : ℕ) → ConcurrentIn R m a b
    → (trace : List ℕ) × ((length trace % 2 ≡ 0) × (((i : ℕ) → get_or trace i 0 < 256) × Witness R m trace a b))
unfolding play_of is_witness
concurrent-witness R W C m least few nodes a b M =
    let T = every-run-replays R W C m (omega arith) least (omega arith) M.run in
    let at-end : at_finish R m T.play.state ≡ true = (finish-of R W m T.play.state).1 (subst (Finished R m) (sym T.same) M.finished) in
    let met : T.play.met a b ≡ true = T.marks M.state M.passed a b (M.t, M.t-in, (M.u, M.u-in, (M.differ, (M.at_a, M.at_b)))) in
    let marked : (play_of (replayed R m T.trace)).met a b ≡ true = rw T.legal met in
    (T.trace, (T.even, (T.bytes, (witness-of R W m least T.trace a b).0 (both-and _ _ (from_end R W m least T.trace T.legal at-end) marked))))

-- a byte of a sheet
pub byte-is : (t : Bool) → eqb (cond t 1 0) 1 ≡ t
byte-is true = eq-eqb 1 1 refl
byte-is false = ne_eqb 0 1 (λ e. omega arith)

-- By what the replay answers and leaves: it has finished, and the byte of the pair in its sheet is 1.
pub witness-by-sheet : (s : List ℕ) (p m : ℕ) (trace out : List ℕ) (a b : ℕ) → let R = region_of p (decode s) in
    first_of (replay_rows s p trace m (length out)) ≡ none → a < R.nodes → b < R.nodes
    → is_witness R m trace a b ≡ (is_ended (replay_answer s p trace m out) && eqb (get_or (sheet_left s p trace m out) (a * R.nodes + b) 0) 1)
unfolding is_witness replay_answer answered
witness-by-sheet s p m trace out a b h la lb = rw (h, sheet-marks s p trace m out h a b la lb, byte-is ((final s p trace m).met a b))
