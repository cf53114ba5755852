-- Demand 3, for a buyer: what Judge's number says about finished runs of the named region's team. It rests on the team rules (crate theory_team), on
-- how a chart's bytes are read for a region (crate chart) and on the table of refusals; it mentions no phase and no answer.
-- Assumes nothing.
use Rattle.std.specs.Prelude.{◌≡◌, ◌↔◌, List, ℕ, ◌+◌, ◌<◌, ℤ, pos, neg_ℤ}
use Rattle.std.proofs.Math.Option.{none, some}
use Rattle.chart.specs.Format.{decode}
use Rattle.chart.specs.Reading.{region_of}
use Rattle.chart.specs.Refusal.{Row, first_of, row_number}
use Rattle.theory_team.specs.Run.{ConcurrentIn, Concurrent}
use Rattle.theory_answers.specs.declared.Size.TheVariants.{Of}
use Rattle.theory_calls.specs.Claims.{total, left, right}
use Rattle.theory_calls.specs.Judged.{judge_rows_for, judge_rows}
use Rattle.chart.specs.declared.format.Refusal.{Refusal}

-- The number is right for a table of refusals and a list of n claims, of which P tells those whose pair is concurrent.
pub record Right (rows : List Row) (n : ℕ) (P : ℕ → Type 0) (number : ℤ) : Type 0 where
  -- refused: the number of the first row that applies, negated
  pub refuses : (refusal : Refusal) → first_of rows ≡ some refusal → number ≡ neg_ℤ (pos (row_number refusal))
  -- otherwise the list passes exactly when none of its pairs is concurrent
  pub passes : first_of rows ≡ none → (number ≡ pos 0) ↔ ((k : ℕ) → k < n → P k → ⊥)
  -- and fails at an index exactly when the pair there is concurrent and no pair before it is
  pub fails : first_of rows ≡ none → (k : ℕ) → (number ≡ pos (k + 1)) ↔ ((k < n) × P k × ((j : ℕ) → j < k → P j → ⊥))

-- The number is right for the bytes of a chart, the number of a region and the bytes of a list of claims. Concurrent (01: met): some team, of any
-- size, has a finished run with a state in which two different threads stand at the two nodes.
abbrev pub Correct : List ℕ → ℕ → List ℕ → ℤ → Type 0
Correct s p claims = Right (judge_rows s p claims) (total claims) (λ k. Concurrent (region_of p (decode s)) (left claims k) (right claims k))

-- The same for teams of just m threads (02, Note 10): some finished run of a team of m has such a state.
abbrev pub CorrectIn : List ℕ → ℕ → ℕ → List ℕ → ℤ → Type 0
CorrectIn s p m claims = Right (judge_rows_for s p (Of m) claims) (total claims) (λ k. ConcurrentIn (region_of p (decode s)) m (left claims k) (right claims k))
