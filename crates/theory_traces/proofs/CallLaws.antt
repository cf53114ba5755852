-- The replay's values tell its answers apart. What its sheet says of the answer for two nodes: a pair marked in a finished trace is one that may meet.
-- Assumes nothing.
use Rattle.std.proofs.Math.Path.{◌≡◌, refl}
use Rattle.std.proofs.Common.{sym, ◌∙◌, ap, arith}
use Rattle.std.specs.Prelude.{Bool, List, [], ◌∷◌, ◌++◌, pos, neg_ℤ, length, get_or, Result, Ok, Err}
use Rattle.std.proofs.Math.Bool.{true, false, cond}
use Rattle.std.proofs.Math.Option.{Option, none, some}
use Prim.Native.Nat.{ℕ, ◌+◌, ◌*◌, ◌<◌}
use Rattle.std.proofs.Math.IntN.{neg_ℤ-neg_ℤ}
use Rattle.lists.specs.Truth.{bad}
use Rattle.lists.specs.Front.{front_at}
use Rattle.lists.specs.Rows.{rows_of, rows-length, rows_at, row_room}
use Rattle.chart.specs.Format.{decode}
use Rattle.chart.specs.Region.{Region}
use Rattle.chart.specs.Reading.{region_of}
use Rattle.chart.specs.Refusal.{Row, first_of, row_number}
use Rattle.chart.proofs.Rows.{both-pass, one-number}
use Rattle.theory_paths.specs.Path.{Open}
use Rattle.theory_paths.specs.Admission.{region_rows, AdmittedIn}
use Rattle.theory_paths.specs.AdmissionLaws.{admitted-well-formed, admitted-connected}
use Rattle.theory_answers.specs.Answer.{answer, answer_in}
use Rattle.output.specs.Output.{output_rows, left_by, content}
use Rattle.theory_traces.specs.Replay.{outcome_of, replayed}
use Rattle.theory_traces.proofs.ReplayLaws.{marked-answered}
use Rattle.theory_traces.specs.Call.{bad_trace, replay_rows, met_sheet, answered, final, replay_answer, sheet_left, Values, values_of}
use Rattle.theory_traces.specs.declared.Replayed.{Replayed}
use Rattle.theory_traces.specs.declared.Replayed.TheVariants.{Finished, Unfinished, Forbidden}
use Rattle.chart.specs.declared.format.Refusal.TheVariants.{BadTrace}
use Rattle.chart.specs.declared.format.Refusal.{Refusal}

negated-apart : (a b : ℕ) → neg_ℤ (pos a) ≡ neg_ℤ (pos b) → a ≡ b
negated-apart a b h = let same : pos a ≡ pos b = sym (neg_ℤ-neg_ℤ (pos a)) ∙ ap neg_ℤ h ∙ neg_ℤ-neg_ℤ (pos b) in cc

by_values : (x y : Result Replayed Refusal) → (values_of x).number ≡ (values_of y).number → (values_of x).finished ≡ (values_of y).finished → (values_of x).forbidden ≡ (values_of y).forbidden
    → x ≡ y
unfolding values_of
by_values (Ok Finished) (Ok Finished) n f b = refl
by_values (Ok Finished) (Ok Unfinished) n f b = absurd (bad (cc))
by_values (Ok Finished) (Ok (Forbidden j)) n f b = absurd (bad (cc))
by_values (Ok Finished) (Err s) n f b = absurd (bad (cc))
by_values (Ok Unfinished) (Ok Finished) n f b = absurd (bad (cc))
by_values (Ok Unfinished) (Ok Unfinished) n f b = refl
by_values (Ok Unfinished) (Ok (Forbidden j)) n f b = absurd (bad (cc))
by_values (Ok Unfinished) (Err s) n f b = absurd (bad (cc))
by_values (Ok (Forbidden i)) (Ok Finished) n f b = absurd (bad (cc))
by_values (Ok (Forbidden i)) (Ok Unfinished) n f b = absurd (bad (cc))
by_values (Ok (Forbidden i)) (Ok (Forbidden j)) n f b = ap (λ (k : ℕ). Ok (Forbidden k)) (cc)
by_values (Ok (Forbidden i)) (Err s) n f b = absurd (bad (cc))
by_values (Err r) (Ok Finished) n f b = absurd (bad (cc))
by_values (Err r) (Ok Unfinished) n f b = absurd (bad (cc))
by_values (Err r) (Ok (Forbidden j)) n f b = absurd (bad (cc))
by_values (Err r) (Err s) n f b = ap Err (one-number r s (negated-apart (row_number r) (row_number s) n))

-- Two different answers have different values.
pub values-apart : (x y : Result Replayed Refusal) → values_of x ≡ values_of y → x ≡ y
values-apart x y h = by_values x y (ap (λ (v : Values). v.number) h) (ap (λ (v : Values). v.finished) h) (ap (λ (v : Values). v.forbidden) h)

-- an answer that is no refusal
not-refused : (o : Option Refusal) (r : Replayed) → answered o r ≡ Ok Finished → (o ≡ none) × (r ≡ Finished)
unfolding answered
not-refused none r h = (refl, cc)
not-refused (some refusal) r h = absurd (bad (cc))

module _ (s : List ℕ) (p : ℕ) (trace : List ℕ) (m : ℕ) (out : List ℕ) where
  abbrev R : Region
  R = region_of p (decode s)

  abbrev n : ℕ
  n = R.nodes

  abbrev rows : List Row
  rows = replay_rows s p trace m (length out)

  abbrev met : ℕ → ℕ → Bool
  met = (final s p trace m).met

  -- of a call that is not refused
  pub passed-admitted : first_of rows ≡ none → AdmittedIn s p
  unfolding replay_rows output_rows
  passed-admitted h = (both-pass (region_rows s p) _ (both-pass (region_rows s p ++ (record { refusal = BadTrace; applies = bad_trace trace m } ∷ [])) _ h).0).0

  -- byte a * n + b is 1 where a and b were met, and 0 otherwise
  pub sheet-marks : first_of rows ≡ none → (a b : ℕ) → a < n → b < n → get_or (sheet_left s p trace m out) (a * n + b) 0 ≡ cond (met a b) 1 0
  unfolding sheet_left left_by content met_sheet
  sheet-marks h a b la lb =
      let f : ℕ → ℕ → ℕ = λ a b. cond (met a b) 1 0 in
      rw h (front_at (rows_of f n n) out (a * n + b) (omega (arith, rows-length f n n, row_room a n la)) ∙ rows_at f n n a b la lb)

  -- In a finished trace every marked pair of nodes that are no barriers is answered 0 (02: is one that may meet), for teams of any size, and for
  -- those of its own.
  pub replayed-answered : replay_answer s p trace m out ≡ Ok Finished → (a b : ℕ) → a < n → b < n → Open R a → Open R b
      → get_or (sheet_left s p trace m out) (a * n + b) 0 ≡ 1 → (answer R a b ≡ 0) × (answer_in R m a b ≡ 0)
  unfolding replay_answer
  replayed-answered h a b la lb oa ob mark =
      let (passes, finished) = not-refused (first_of rows) (outcome_of R m (replayed R m trace)) h in
      let admitted = passed-admitted passes in
      marked-answered R (admitted-well-formed s p admitted) m (admitted-connected s p admitted) trace a b oa ob finished (is-met (met a b) (sym (sheet-marks passes a b la lb) ∙ mark))
    where
      is-met : (b : Bool) → ◌≡◌ {A = ℕ} (cond b 1 0) 1 → b ≡ true
      is-met true h = refl
      is-met false h = absurd (bad h)
