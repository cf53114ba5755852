-- The replay is correct, for all bytes.
-- Assumes nothing.
use Rattle.std.specs.Prelude.{◌≡◌, ◌⊎◌, true, false, List, [], ◌∷◌, ◌++◌, eqb, ltb, pos, length, get_or, Result, Ok, Err}
use Rattle.std.proofs.Math.Path.{refl}
use Rattle.std.proofs.Common.{◌∙◌, subst, inl, inr, arith}
use Rattle.std.proofs.Math.Bool.{cond}
use Rattle.std.proofs.Math.Option.{Option, none, some}
use Prim.Native.Nat.{ℕ, ◌*◌, ◌/◌, ◌%◌, ◌≤◌}
use borrow.Author.Tests.{eqb-false, ltb-false}
use Rattle.lists.specs.Truth.{bad, truth, clash, false-if, or-neither}
use Rattle.lists.specs.Front.{front_length, front-past}
use Rattle.lists.specs.Rows.{rows_of, rows-length}
use Rattle.chart.specs.Format.{decode}
use Rattle.chart.specs.Region.{Region}
use Rattle.chart.specs.Reading.{region_of}
use Rattle.chart.specs.Refusal.{Row, first_of}
use Rattle.chart.specs.WellFormed.{WellFormed}
use Rattle.chart.proofs.Rows.{none-applies, both-pass}
use Rattle.theory_paths.specs.Admission.{region_rows}
use Rattle.theory_paths.specs.AdmissionLaws.{admitted-well-formed}
use Rattle.theory_team.specs.State.{State}
use Rattle.output.specs.Output.{room_row, output_rows, left_by, content}
use Rattle.theory_traces.specs.Replay.{Play, Progress, going, stopped, progress, replayed, at_finish, outcome_of, play_of}
use Rattle.theory_traces.proofs.ReplayLaws.{finish-of}
use Rattle.theory_traces.proofs.LegalLaws.{Follows, FollowsTo, progress-follows, stops-illegal, met-marked}
use Rattle.theory_traces.specs.Call.{bad_trace, replay_rows, met_sheet, answered, records_by, final, replay_answer, records_left, sheet_left, values_of}
use Rattle.theory_traces.proofs.CallLaws.{passed-admitted, sheet-marks, replayed-answered}
use Rattle.theory_traces.specs.Correct.{Says, Told, ReplayCorrect}
use Rattle.theory_traces.specs.declared.Replayed.{Replayed}
use Rattle.theory_traces.specs.declared.Replayed.TheVariants.{Finished as Ended, Unfinished, Forbidden}
use Rattle.theory_traces.specs.declared.Thread.{Thread}
use Rattle.chart.specs.declared.format.Refusal.{Refusal}
use Rattle.chart.specs.declared.format.Refusal.TheVariants.{BadTrace}

module _ (R : Region) (W : WellFormed R) (m : ℕ) (least : 1 ≤ m) (trace : List ℕ) where
  -- how far the replay came
  unfoldable entries_of : ℕ → Progress → ℕ
  entries_of k (going P) = k
  entries_of k (stopped P i) = i

  -- what it says, by what it has come to
  abbrev Right : ℕ → State → Replayed → Type 0
  Right k σ answer = ((values_of (Ok answer)).number ≡ pos 0) × Says R m trace k σ (values_of (Ok answer)).finished (values_of (Ok answer)).forbidden

  outcome-says : (p : Progress) → FollowsTo R W m least trace (length trace / 2) p → Right (entries_of (length trace / 2) p) (play_of p).state (outcome_of R m p)
  unfolding entries_of play_of outcome_of values_of
  outcome-says (going P) F = go (truth (at_finish R m P.state))
    where
      go : (at_finish R m P.state ≡ true) ⊎ (at_finish R m P.state ≡ false) → Right (length trace / 2) P.state (cond (at_finish R m P.state) Ended Unfinished)
      go (inl h) = rw h (refl, (refl, (finish-of R W m P.state).0 h))
      go (inr h) = rw h (refl, (refl, λ f. clash ((finish-of R W m P.state).1 f) h))
  outcome-says (stopped P i) S = (refl, (refl, (S.before, λ τ nodes L. stops-illegal R W m least trace S L)))

  outcome-legal : (p : Progress) → FollowsTo R W m least trace (length trace / 2) p → Follows R W m least trace (entries_of (length trace / 2) p) (play_of p)
  unfolding entries_of play_of
  outcome-legal (going P) F = F
  outcome-legal (stopped P i) S = S.follows

  -- where it stopped, it had come to the same play
  outcome-came : (p : Progress) → replayed R m trace ≡ p → FollowsTo R W m least trace (length trace / 2) p
      → play_of (progress R m trace (entries_of (length trace / 2) p)) ≡ play_of p
  unfolding entries_of play_of
  outcome-came (going P) e F = rw e
  outcome-came (stopped P i) e S = rw S.came

-- what row 22 leaves
pub whole-trace : (trace : List ℕ) (m : ℕ) → bad_trace trace m ≡ false → (1 ≤ m) × (m ≤ 8)
unfolding bad_trace
whole-trace trace m h =
    let (odd, team) = or-neither (eqb (length trace % 2) 1) _ h in
    let (empty, many) = or-neither (eqb m 0) (ltb 8 m) team in
    let some-thread = eqb-false m 0 empty in
    (omega arith, ltb-false 8 m many)

module _ (s : List ℕ) (p : ℕ) (trace : List ℕ) (m : ℕ) (out : List ℕ) where
  abbrev R : Region
  R = region_of p (decode s)

  abbrev n : ℕ
  n = R.nodes

  abbrev rows : List Row
  rows = replay_rows s p trace m (length out)

  -- what row 11 leaves too
  pub passed-team : first_of rows ≡ none → (1 ≤ m) × ((m ≤ 8) × (n * n ≤ length out))
  unfolding replay_rows output_rows room_row
  passed-team h =
      let row : Row = record { refusal = BadTrace; applies = bad_trace trace m } in
      let (before, room) = both-pass (region_rows s p ++ (row ∷ [])) (room_row (length out) (n * n) ∷ []) h in
      let (least, most) = whole-trace trace m (none-applies (row ∷ []) (both-pass (region_rows s p) (row ∷ []) before).1).0 in
      (least, (most, ltb-false (length out) (n * n) (none-applies (room_row (length out) (n * n) ∷ []) room).0))

  pub replay-told : first_of rows ≡ none → Told R m trace (values_of (Ok (outcome_of R m (replayed R m trace)))) (final s p trace m).state (sheet_left s p trace m out)
  replay-told h =
      let W = admitted-well-formed s p (passed-admitted s p trace m out h) in
      let least = (passed-team h).0 in
      let F = progress-follows R W m least trace (length trace / 2) in
      let k = entries_of R W m least trace (length trace / 2) (replayed R m trace) in
      let L = outcome-legal R W m least trace (replayed R m trace) F in
      let same = outcome-came R W m least trace (replayed R m trace) refl F in
      record {
        entries = k;
        chosen = (final s p trace m).chosen;
        legal = L.legal;
        number = (outcome-says R W m least trace (replayed R m trace) F).0;
        says = (outcome-says R W m least trace (replayed R m trace) F).1;
        met = λ a b la lb M.
            let marked : (final s p trace m).met a b ≡ true = subst (λ (P : Play). P.met a b ≡ true) same (met-marked R W m least trace M) in
            sheet-marks s p trace m out h a b la lb ∙ (rw marked);
        not-met = λ a b la lb N.
            let unmarked : (final s p trace m).met a b ≡ false = false-if (λ g. N (L.marks a b g)) in
            sheet-marks s p trace m out h a b la lb ∙ (rw unmarked);
      }

  -- bytes past the sheet
  left-past : first_of rows ≡ none → (j : ℕ) → n * n ≤ j → get_or (sheet_left s p trace m out) j 0 ≡ get_or out j 0
  unfolding sheet_left left_by content met_sheet
  left-past h j l =
      let f : ℕ → ℕ → ℕ = λ a b. cond ((final s p trace m).met a b) 1 0 in
      rw h (front-past (rows_of f n n) out j (omega (arith, rows-length f n n)))

  left-length : length (sheet_left s p trace m out) ≡ length out
  unfolding sheet_left left_by content met_sheet
  left-length = go (first_of rows) refl
    where
      f : ℕ → ℕ → ℕ
      f a b = cond ((final s p trace m).met a b) 1 0

      go : (o : Option Refusal) → first_of rows ≡ o → length (sheet_left s p trace m out) ≡ length out
      go none h = rw h (front_length (rows_of (λ a b. cond ((final s p trace m).met a b) 1 0) n n) out (omega (arith, rows-length (λ a b. cond ((final s p trace m).met a b) 1 0) n n, (passed-team h).1.1)))
      go (some row) h = rw h

ended : (answer : Result Replayed Refusal) → (values_of answer).finished ≡ some true → answer ≡ Ok Ended
unfolding values_of
ended (Ok Ended) h = refl
ended (Ok Unfinished) h = absurd (bad (cc))
ended (Ok (Forbidden index)) h = absurd (bad (cc))
ended (Err refusal) h = absurd (bad (cc))

-- What the definitions give is correct.
pub replay-correct : (s : List ℕ) (p : ℕ) (trace : List ℕ) (records : List Thread) (out : List ℕ)
    → ReplayCorrect s p trace records out (values_of (replay_answer s p trace (length records) out)) (records_left s p trace records out) (sheet_left s p trace (length records) out)
unfolding replay_answer records_left sheet_left answered records_by left_by content values_of
replay-correct s p trace records out =
    let m = length records in
    record {
      refuses = λ row h. rw h (refl, (refl, refl));
      replays = λ h.
          let R = region_of p (decode s) in
          let same : Ok (outcome_of R m (replayed R m trace)) ≡ replay_answer s p trace m out = rw h in
          let told = subst (λ (r : Result Replayed Refusal). Told R m trace (values_of r) (final s p trace m).state (sheet_left s p trace m out)) same (replay-told s p trace m out h) in
          ((final s p trace m).state, ((rw h), told));
      may-meet = λ h. replayed-answered s p trace m out (ended (replay_answer s p trace m out) h);
      rest = left-past s p trace m out;
      long = left-length s p trace m out;
    }
