-- A trace as a witness: it is a finished run by the team rules (02, Note 11) in which two different threads stand at a and b together. As a relation,
-- computed, and as a call on a region of a chart: its rows in order, what it answers, and C's number for every case.
-- Assumes nothing.
use Rattle.std.specs.Prelude.{Bool, true, false, ◌&&◌, List, [], ◌∷◌, ◌++◌, ℕ, ◌/◌, ℤ, pos, neg_ℤ, length, Result, Ok, Err}
use Rattle.std.proofs.Math.Option.{Option, none, some}
use Rattle.chart.specs.Format.{decode}
use Rattle.chart.specs.Region.{Region}
use Rattle.chart.specs.Reading.{region_of}
use Rattle.chart.specs.Refusal.{Row, first_of, row_number}
use Rattle.theory_paths.specs.Admission.{region_rows}
use Rattle.theory_team.specs.State.{State}
use Rattle.theory_team.specs.Run.{Finished}
use Rattle.theory_traces.specs.Legal.{Legal, MetBy}
use Rattle.theory_traces.specs.Replay.{replayed, outcome_of, play_of}
use Rattle.theory_traces.specs.Call.{bad_trace}
use Rattle.theory_traces.specs.declared.Replayed.{Replayed}
use Rattle.theory_traces.specs.declared.Replayed.TheVariants.{Finished as Ended, Unfinished, Forbidden}
use Rattle.theory_calls.specs.Pair.{numbers_row}
use Rattle.chart.specs.declared.format.Refusal.TheVariants.{BadTrace}
use Rattle.chart.specs.declared.format.Refusal.{Refusal}

-- All entries are legal by the team rules, after the last of them every thread is at finish, and before the first or after one of them two different
-- threads stand at a and b.
pub record Witness (R : Region) (m : ℕ) (trace : List ℕ) (a b : ℕ) : Type 0 where
  pub final : State
  pub legal : Legal R m trace (length trace / 2) final []
  pub finished : Finished R m final
  pub met : MetBy R m trace (length trace / 2) a b

-- The same, computed.
abbrev pub is_ended : Result Replayed Refusal → Bool
is_ended (Ok Ended) = true
is_ended (Ok Unfinished) = false
is_ended (Ok (Forbidden index)) = false
is_ended (Err refusal) = false

unfoldable pub is_witness : Region → ℕ → List ℕ → ℕ → ℕ → Bool
is_witness R m trace a b = is_ended (Ok (outcome_of R m (replayed R m trace))) && (play_of (replayed R m trace)).met a b

-- Rows 1 to 10, then 23, then 13 of the two nodes, then 22.
unfoldable pub witness_rows : List ℕ → ℕ → ℕ → List ℕ → ℕ → ℕ → List Row
witness_rows s p m trace a b = region_rows s p ++ (numbers_row (region_of p (decode s)) a b ∷ record { refusal = BadTrace; applies = bad_trace trace m } ∷ [])

unfoldable pub answered_by : Option Refusal → Bool → Result Bool Refusal
answered_by none holds = Ok holds
answered_by (some refusal) holds = Err refusal

-- What the call answers, over any bytes of a chart, any number that is to name a region, any size, any bytes of a trace and any two numbers.
unfoldable pub witnessed : List ℕ → ℕ → ℕ → List ℕ → ℕ → ℕ → Result Bool Refusal
witnessed s p m trace a b = answered_by (first_of (witness_rows s p m trace a b)) (is_witness (region_of p (decode s)) m trace a b)

-- The number for every case: 1, 0, or the refusal's number negated.
unfoldable pub number_of : Result Bool Refusal → ℤ
number_of (Ok true) = pos 1
number_of (Ok false) = pos 0
number_of (Err refusal) = neg_ℤ (pos (row_number refusal))
