-- What is asked of the call that tells whether a trace is a witness, for a buyer: its number, by the team rules alone (`Witness`, over `Legal` in crate
-- theory_traces). It rests on how a chart's bytes are read for a region (crate chart) and on the table of refusals; it mentions no answer.
-- Assumes nothing.
use Rattle.std.specs.Prelude.{◌≡◌, ◌↔◌, List, ℕ, ℤ, pos, neg_ℤ}
use Rattle.std.proofs.Math.Option.{none, some}
use Rattle.chart.specs.Format.{decode}
use Rattle.chart.specs.Reading.{region_of}
use Rattle.chart.specs.Refusal.{first_of, row_number}
use Rattle.theory_calls.specs.Witness.{Witness, witness_rows}
use Rattle.chart.specs.declared.format.Refusal.{Refusal}

-- The number is right for the bytes of a chart, the number of a region, a team of m threads, the bytes of a trace and two node numbers.
pub record WitnessedCorrect (s : List ℕ) (p m : ℕ) (trace : List ℕ) (a b : ℕ) (number : ℤ) : Type 0 where
  -- refused: the number of the first of rows 1 to 10, 23, 13 and 22 that applies, negated
  pub refuses : (refusal : Refusal) → first_of (witness_rows s p m trace a b) ≡ some refusal → number ≡ neg_ℤ (pos (row_number refusal))
  -- otherwise 1 exactly when the trace is a finished run of the team that has two threads at a and b together, and 0 exactly when it is not
  pub witnesses : first_of (witness_rows s p m trace a b) ≡ none → (number ≡ pos 1) ↔ Witness (region_of p (decode s)) m trace a b
  pub denies : first_of (witness_rows s p m trace a b) ≡ none → (number ≡ pos 0) ↔ (Witness (region_of p (decode s)) m trace a b → ⊥)
