-- The replay as a call (02, Note 11) on a region of a chart (02, Note 12): its rows in order, what it answers, and what it leaves in the records
-- and in the sheet.
-- Assumes nothing.
use Rattle.std.specs.Prelude.{Bool, true, false, ◌||◌, cond, List, [], ◌∷◌, ◌++◌, ℕ, ◌*◌, ◌%◌, eqb, ltb, ℤ, pos, neg_ℤ, length, Result, Ok, Err}
use Rattle.std.proofs.Math.Option.{Option, none, some}
use Rattle.lists.specs.Mask.{mask_of}
use Rattle.lists.specs.Rows.{rows_of}
use Rattle.lists.specs.Tab.{tab}
use Rattle.chart.specs.Format.{decode}
use Rattle.chart.specs.Reading.{region_of}
use Rattle.chart.specs.Refusal.{Row, first_of, row_number}
use Rattle.theory_paths.specs.Admission.{region_rows}
use Rattle.theory_team.specs.State.{State}
use Rattle.output.specs.Output.{output_rows, left_by}
use Rattle.theory_traces.specs.Replay.{Play, outcome_of, play_of, replayed}
use Rattle.theory_traces.specs.declared.Replayed.{Replayed}
use Rattle.theory_traces.specs.declared.Replayed.TheVariants.{Finished, Unfinished, Forbidden}
use Rattle.theory_traces.specs.declared.Thread.{Thread}
use Rattle.chart.specs.declared.format.Refusal.TheVariants.{BadTrace}
use Rattle.chart.specs.declared.format.Refusal.{Refusal}

-- Row 22: odd trace length, or a team of none or over eight.
unfoldable pub bad_trace : List ℕ → ℕ → Bool
bad_trace trace m = eqb (length trace % 2) 1 || (eqb m 0 || ltb 8 m)

-- Rows 1 to 10, then 23, then 22, then 11, for n rows of n.
unfoldable pub replay_rows : List ℕ → ℕ → List ℕ → ℕ → ℕ → List Row
replay_rows s p trace m room =
    let n = (region_of p (decode s)).nodes in
    output_rows (region_rows s p ++ (record { refusal = BadTrace; applies = bad_trace trace m } ∷ [])) room (n * n) []

-- The record of thread t: its node, its counts, and for each sections construct the mask of the sections that it has taken. There are at most
-- 48 constructs.
unfoldable pub record_of : State → ℕ → Thread
record_of σ t = record { node = σ.node t; counts = tab 48 (σ.encounters t); taken = tab 48 (λ c. mask_of (σ.taken t c) 48) }

-- The sheet of the pairs met: n rows of n, 1 for met and 0 otherwise.
unfoldable pub met_sheet : ℕ → (ℕ → ℕ → Bool) → List ℕ
met_sheet n met = rows_of (λ a b. cond (met a b) 1 0) n n

unfoldable pub answered : Option Refusal → Replayed → Result Replayed Refusal
answered none outcome = Ok outcome
answered (some refusal) outcome = Err refusal

-- Where nothing is refused, the new records; else those found.
unfoldable pub records_by : Option Refusal → List Thread → List Thread → List Thread
records_by none new old = new
records_by (some refusal) new old = old

-- What the replay of a trace by a team of m comes to.
abbrev pub final : List ℕ → ℕ → List ℕ → ℕ → Play
final s p trace m = play_of (replayed (region_of p (decode s)) m trace)

-- What the call answers, what the lent records hold then, and what the lent buffer. The team is one thread for each record.
unfoldable pub replay_answer : List ℕ → ℕ → List ℕ → ℕ → List ℕ → Result Replayed Refusal
replay_answer s p trace m out =
    let R = region_of p (decode s) in answered (first_of (replay_rows s p trace m (length out))) (outcome_of R m (replayed R m trace))

unfoldable pub records_left : List ℕ → ℕ → List ℕ → List Thread → List ℕ → List Thread
records_left s p trace records out =
    let m = length records in records_by (first_of (replay_rows s p trace m (length out))) (tab m (record_of (final s p trace m).state)) records

unfoldable pub sheet_left : List ℕ → ℕ → List ℕ → ℕ → List ℕ → List ℕ
sheet_left s p trace m out = left_by (replay_rows s p trace m (length out)) (met_sheet (region_of p (decode s)).nodes (final s p trace m).met) out

-- 02's number and values for every case: a refusal's number, negated, or 0; of a trace that is replayed, whether it is finished, and the index of the
-- first entry that the team rules forbid, where there is one.
pub record Values : Type 0 where
  pub number : ℤ
  pub finished : Option Bool
  pub forbidden : Option ℕ

unfoldable pub values_of : Result Replayed Refusal → Values
values_of (Ok Finished) = record { number = pos 0; finished = some true; forbidden = none }
values_of (Ok Unfinished) = record { number = pos 0; finished = some false; forbidden = none }
values_of (Ok (Forbidden index)) = record { number = pos 0; finished = some false; forbidden = some index }
values_of (Err refusal) = record { number = neg_ℤ (pos (row_number refusal)); finished = none; forbidden = none }
