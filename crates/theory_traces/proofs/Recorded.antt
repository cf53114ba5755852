-- Every finished run of up to eight threads is recorded by some trace; so each pair that may meet in such a team is marked by a finished trace.
-- Assumes nothing.
use Rattle.std.specs.Prelude.{Ok, ◌≡◌, List, [], ◌∷◌, ◌++◌, ℕ, ◌+◌, ◌*◌, ◌%◌, ◌≤◌, ◌<◌, get_or}
use Rattle.std.proofs.Common.{sym, ◌∙◌, subst}
use Rattle.std.proofs.Math.Bool.{true, false}
use Rattle.std.proofs.Math.Option.{none}
use native.Mathlib.Omega.{arith}
use Rattle.std.proofs.Math.Dec.{eqb}
use Rattle.std.proofs.Math.ListN.{length}
use borrow.Author.Tests.{ne_eqb, le-ltb}
use Rattle.chart.specs.Format.{decode}
use Rattle.chart.specs.Region.{Region}
use Rattle.chart.specs.Reading.{region_of}
use Rattle.chart.specs.Refusal.{Row, first_of, chart_rows, trailer_rows, table_rows}
use Rattle.chart.specs.Checked.{counts_of}
use Rattle.chart.proofs.Rows.{applies-none, second-decides, both-pass}
use Rattle.chart.proofs.Records.{nodes-length}
use Rattle.chart.proofs.Accepted.{laid}
use Rattle.theory_paths.specs.Path.{Open}
use Rattle.theory_paths.specs.Admission.{region_rows, AdmittedIn}
use Rattle.theory_paths.specs.AdmissionLaws.{admitted-rows, admitted-well-formed, admitted-connected}
use Rattle.theory_team.specs.State.{State, initial}
use Rattle.theory_team.specs.Run.{Run, StateOf, Finished as Run-as-Finished}
use Rattle.theory_answers.specs.Answer.{answer_in}
use Rattle.theory_exact.proofs.AnsweredLaws.{size_exact}
use Rattle.output.specs.Output.{output_rows, room_row}
use Rattle.theory_traces.specs.Legal.{Together}
use Rattle.theory_traces.specs.Replay.{at_finish, outcome_of, play_of}
use Rattle.theory_traces.proofs.ReplayLaws.{finish-of}
use Rattle.theory_traces.proofs.EveryRun.{every-run-replays}
use Rattle.theory_traces.specs.Call.{bad_trace, replay_rows, answered, final, replay_answer, sheet_left}
use Rattle.theory_traces.proofs.CallLaws.{sheet-marks}
use Rattle.theory_traces.specs.declared.Replayed.TheVariants.{Finished}
use Rattle.chart.specs.declared.format.Refusal.TheVariants.{BadTrace}

module _ (s : List ℕ) (p m : ℕ) (out : List ℕ) (admitted : AdmittedIn s p) (least : 1 ≤ m) (most : m ≤ 8)
    (room : (region_of p (decode s)).nodes * (region_of p (decode s)).nodes ≤ length out) where
  abbrev R : Region
  R = region_of p (decode s)

  abbrev n : ℕ
  n = R.nodes

  -- a trace of whole entries is not refused then
  passes : (trace : List ℕ) → length trace % 2 ≡ 0 → first_of (replay_rows s p trace m (length out)) ≡ none
  unfolding replay_rows output_rows room_row bad_trace
  passes trace even =
      let row : Row = record { refusal = BadTrace; applies = bad_trace trace m } in
      let whole : eqb (length trace % 2) 1 ≡ false = ne_eqb (length trace % 2) 1 (λ e. odd e) in
      let team : eqb m 0 ≡ false = ne_eqb m 0 (λ e. empty e) in
      let fits : bad_trace trace m ≡ false = rw (whole, team, le-ltb 8 m most) in
      let before = second-decides (region_rows s p) (row ∷ []) admitted ∙ applies-none (row ∷ []) (fits, tt) in
      second-decides (region_rows s p ++ (row ∷ [])) (room_row (length out) (n * n) ∷ []) before ∙ applies-none (room_row (length out) (n * n) ∷ []) (le-ltb (length out) (n * n) room, tt)
    where
      odd : length trace % 2 ≡ 1 → ⊥
      odd e = omega arith

      empty : m ≡ 0 → ⊥
      empty e = omega arith

  few-nodes : n ≤ 192
  unfolding chart_rows
  few-nodes =
      let bytes = laid s (both-pass (trailer_rows s) (table_rows (decode s)) (admitted-rows s p admitted)).0 in
      omega (arith, nodes-length s (counts_of s) bytes, bytes.nodes-most)

  -- A trace of bytes for a run: the replay answers that it is finished, and marks every pair met in the run.
  pub record Recorded {τ : State} (r : Run R m (initial R) τ) : Type 0 where
    pub trace : List ℕ
    pub bytes : (i : ℕ) → get_or trace i 0 < 256
    pub finished : replay_answer s p trace m out ≡ Ok Finished
    pub marks : (μ : State) → StateOf R m (initial R) τ r μ → (a b : ℕ) → a < n → b < n → Together m μ a b
        → get_or (sheet_left s p trace m out) (a * n + b) 0 ≡ 1

  -- Every finished run of up to eight threads is one that a trace records,
  pub finished-recorded : {τ : State} (r : Run R m (initial R) τ) → Run-as-Finished R m τ → Recorded r
  unfolding replay_answer answered outcome_of play_of
  finished-recorded r end =
      let W = admitted-well-formed s p admitted in
      let T = every-run-replays R W (admitted-connected s p admitted) m (omega arith) least (omega (arith, few-nodes)) r in
      let none-refused = passes T.trace T.even in
      let at-end : at_finish R m T.play.state ≡ true = (finish-of R W m T.play.state).1 (subst (Run-as-Finished R m) (sym T.same) end) in
      record {
        trace = T.trace;
        bytes = T.bytes;
        finished = rw (none-refused, T.legal, at-end);
        marks = λ μ h a b la lb g.
            let met : (final s p T.trace m).met a b ≡ true = rw T.legal (T.marks μ h a b g) in
            sheet-marks s p T.trace m out none-refused a b la lb ∙ (rw met);
      }

  -- and each pair of nodes that are no barriers and are answered 0 for the size of the team is marked by some finished trace.
  pub answered-marked : (a b : ℕ) → a < n → b < n → Open R a → Open R b → answer_in R m a b ≡ 0
      → (trace : List ℕ) × ((replay_answer s p trace m out ≡ Ok Finished) × (get_or (sheet_left s p trace m out) (a * n + b) 0 ≡ 1))
  answered-marked a b la lb oa ob h =
      let M = (size_exact (admitted-well-formed s p admitted) (admitted-connected s p admitted) oa ob m).0 h in
      let T = finished-recorded M.run M.finished in
      (T.trace, (T.finished, T.marks M.state M.passed a b la lb (M.t, M.t-in, (M.u, M.u-in, (M.differ, (M.at_a, M.at_b))))))
