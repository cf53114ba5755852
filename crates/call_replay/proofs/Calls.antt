-- The rows of the replay, and what a refusal leaves.
-- Assumes nothing.
use Rattle.std.specs.Prelude.{Err}
use mathlib.Core.Path.{◌≡◌, refl, ◌∙◌, subst}
use mathlib.Core.Bool.{true, false}
use mathlib.Core.List.{List, [], ◌∷◌, ◌++◌}
use mathlib.Core.Option.{Option, none, some}
use Prim.Native.Nat.{ℕ, ◌*◌, ◌≤◌, ◌<◌}
use native.Mathlib.Omega.{arith}
use lib.ListN.{length, replicate, length-replicate}
use borrow.Author.Tests.{lt-ltb, le-ltb}
use Rattle.lists.specs.Truth.{bad}
use Rattle.chart.specs.Format.{decode}
use Rattle.chart.specs.Reading.{region_of}
use Rattle.chart.specs.Refusal.{Row, first_of}
use Rattle.chart.proofs.Rows.{first-decides, second-decides}
use Rattle.theory_paths.specs.Admission.{region_rows}
use Rattle.output.specs.Output.{room_row, output_rows, left_by, content}
use Rattle.theory_traces.specs.Call.{bad_trace, replay_rows, answered, replay_answer, sheet_left}
use Rattle.theory_traces.proofs.CorrectLaws.{passed-team, replay-correct}
use Rattle.theory_traces.specs.declared.Thread.{Thread}
use Rattle.call_replay.specs.Team.{count_by}
use Rattle.chart.specs.declared.format.Refusal.TheVariants.{BadTrace, NoRoom}
use Rattle.chart.specs.declared.format.Refusal.{Refusal}
use Rattle.answer_steps.specs.Teams.{unknown}

module _ (s : List ℕ) (p : ℕ) (trace : List ℕ) (m : ℕ) (out : List ℕ) where
  abbrev n : ℕ
  n = (region_of p (decode s)).nodes

  abbrev rows : List Row
  rows = replay_rows s p trace m (length out)

  abbrev own : Row
  own = record { refusal = BadTrace; applies = bad_trace trace m }

  -- the first rows decide
  pub region-refused : {k : Refusal} → first_of (region_rows s p) ≡ some k → first_of rows ≡ some k
  unfolding replay_rows output_rows
  region-refused {k} h = first-decides (region_rows s p ++ (own ∷ [])) (room_row (length out) (n * n) ∷ []) k (first-decides (region_rows s p) (own ∷ []) k h)

  module _ (passes : first_of (region_rows s p) ≡ none) where
    one : first_of (region_rows s p ++ (own ∷ [])) ≡ first_of (own ∷ [])
    one = second-decides (region_rows s p) (own ∷ []) passes

    pub trace-refused : bad_trace trace m ≡ true → first_of rows ≡ some BadTrace
    unfolding replay_rows output_rows first_of
    trace-refused h = first-decides (region_rows s p ++ (own ∷ [])) (room_row (length out) (n * n) ∷ []) BadTrace (one ∙ (rw h))

    module _ (h : bad_trace trace m ≡ false) where
      two : first_of rows ≡ first_of (room_row (length out) (n * n) ∷ [])
      unfolding replay_rows output_rows first_of
      two = second-decides (region_rows s p ++ (own ∷ [])) (room_row (length out) (n * n) ∷ []) (one ∙ (rw h))

      pub room-refused : length out < n * n → first_of rows ≡ some NoRoom
      unfolding first_of room_row
      room-refused l = two ∙ (rw (lt-ltb (length out) (n * n) l))

      pub none-refused : n * n ≤ length out → first_of rows ≡ none
      unfolding first_of room_row
      none-refused l = two ∙ (rw (le-ltb (length out) (n * n) l))

  -- what a refusal leaves
  pub refused-answer : {k : Refusal} → first_of rows ≡ some k → Err k ≡ replay_answer s p trace m out
  unfolding replay_answer answered
  refused-answer h = rw h

  pub refused-sheet : {k : Refusal} → first_of rows ≡ some k → out ≡ sheet_left s p trace m out
  unfolding sheet_left left_by content
  refused-sheet h = rw h

  pub refused-count : {k : Refusal} → first_of rows ≡ some k → 0 ≡ count_by (first_of rows) m
  unfolding count_by
  refused-count h = rw h

  pub refused_none : {k : Refusal} → first_of rows ≡ some k → first_of rows ≡ none → ⊥
  refused_none h g = bad (cc)

  -- the buffer keeps its length
  pub left-length : length (sheet_left s p trace m out) ≡ length out
  left-length = subst (λ (k : ℕ). length (sheet_left s p trace k out) ≡ length out) (length-replicate {A = Thread} m unknown) (replay-correct s p trace (replicate m unknown) out).long

-- A team has at most eight records.
pub count-few : (s : List ℕ) (p : ℕ) (trace : List ℕ) (m room : ℕ) → count_by (first_of (replay_rows s p trace m room)) m ≤ 8
unfolding count_by
count-few s p trace m room = subst (λ (k : ℕ). count_by (first_of (replay_rows s p trace m k)) m ≤ 8) (length-replicate {A = ℕ} room 0) (go (first_of (replay_rows s p trace m (length (replicate {A = ℕ} room 0)))) refl)
  where
    go : (o : Option Refusal) → first_of (replay_rows s p trace m (length (replicate {A = ℕ} room 0))) ≡ o → count_by o m ≤ 8
    go none h = (passed-team s p trace m (replicate room 0) h).1.0
    go (some k) h = omega arith
