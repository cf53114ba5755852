-- What the replay says and leaves, as the answer; and the rows before row 13.
-- Assumes nothing.
use Rattle.std.specs.Prelude.{Ok, Result, Err}
use mathlib.Core.Path.{◌≡◌, ◌∙◌, ap}
use mathlib.Core.Bool.{Bool, true, false, cond}
use mathlib.Core.List.{List, [], ◌∷◌}
use mathlib.Core.Option.{none, some}
use Prim.Native.Nat.{ℕ, ◌+◌, ◌*◌, ◌<◌}
use native.Mathlib.Omega.{arith}
use native.Mathlib.Nat.{zero-mul}
use lib.Dec.{eqb}
use lib.ListN.{get_or}
use Rattle.chart.specs.Format.{decode}
use Rattle.chart.specs.Region.{Region}
use Rattle.chart.specs.Reading.{region_of}
use Rattle.chart.specs.Refusal.{Row, first_of}
use Rattle.chart.proofs.Rows.{first-decides, second-decides}
use Rattle.theory_paths.specs.Admission.{region_rows}
use Rattle.theory_calls.specs.Pair.{numbers_row}
use Rattle.theory_calls.specs.Witness.{is_ended, is_witness, witness_rows, answered_by, witnessed}
use Rattle.theory_calls.proofs.WitnessLaws.{byte-is}
use Rattle.theory_traces.specs.Call.{bad_trace}
use Rattle.theory_traces.specs.Replay.{outcome_of, play_of, replayed}
use Rattle.theory_traces.specs.declared.Replayed.{Replayed}
use Rattle.call_replay.specs.PairsMet.{Sheet}
use Rattle.chart.specs.declared.format.Refusal.TheVariants.{BadTrace}
use Rattle.chart.specs.declared.format.Refusal.{Refusal}

module _ (R : Region) (m : ℕ) (trace : List ℕ) (a b : ℕ) {r : Replayed} (said : r ≡ outcome_of R m (replayed R m trace)) where
  -- a run that has ended: the row of a tells
  pub row-tells : {row : List ℕ} → is_ended (Ok r) ≡ true → Sheet R.nodes (record { first = a; count = 1 }) (play_of (replayed R m trace)).met row → b < R.nodes
      → eqb (get_or row b 0) 1 ≡ is_witness R m trace a b
  unfolding is_witness
  row-tells {row} e S l =
      let met : ℕ → ℕ → Bool = (play_of (replayed R m trace)).met in
      let place : b ≡ 0 * R.nodes + b = omega (arith, zero-mul R.nodes) in
      let own : a + 0 ≡ a = omega arith in
      let at : get_or row b 0 ≡ cond (met a b) 1 0 = ap (λ (j : ℕ). get_or row j 0) place ∙ S.at 0 b (omega arith) l ∙ ap (λ (x : ℕ). cond (met x b) 1 0) own in
      rw (← said, e, at, byte-is (met a b))

  pub not-ended : is_ended (Ok r) ≡ false → false ≡ is_witness R m trace a b
  unfolding is_witness
  not-ended e = rw (← said, e)

module _ (s : List ℕ) (p m : ℕ) (trace : List ℕ) (a b : ℕ) where
  abbrev own : ℕ → List Row
  own q = numbers_row (region_of q (decode s)) a b ∷ record { refusal = BadTrace; applies = bad_trace trace m } ∷ []

  pub told-refused : {refusal : Refusal} → first_of (region_rows s p) ≡ some refusal → Err refusal ≡ witnessed s p m trace a b
  unfolding witnessed witness_rows answered_by
  told-refused {refusal} h = rw (first-decides (region_rows s p) (own p) refusal h)

  -- what is answered of the region that the chart was read for is what is answered of the named one
  pub told-passed : {read : ℕ} {r : Result Bool Refusal} → read ≡ p → first_of (region_rows s p) ≡ none
      → r ≡ answered_by (first_of (own read)) (is_witness (region_of read (decode s)) m trace a b) → r ≡ witnessed s p m trace a b
  unfolding witnessed witness_rows
  told-passed named passes h = rw (second-decides (region_rows s p) (own p) passes) (rw named at h)
