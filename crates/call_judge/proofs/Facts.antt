-- What decides a list's verdict, and where a list fails.
-- Assumes nothing.
use Rattle.std.specs.Prelude.{Result, Ok, Err, Some, None}
use mathlib.Core.Path.{◌≡◌}
use mathlib.Core.Logic.{◌⊎◌, inl, inr}
use mathlib.Core.Bool.{Bool, true, false, cond}
use mathlib.Core.List.{List}
use mathlib.Core.Option.{Option, none, some}
use Prim.Native.Nat.{ℕ, ◌<◌}
use native.Mathlib.Omega.{arith}
use Rattle.lists.specs.Truth.{bad, truth}
use Rattle.lists.specs.Range.{any, first, first_passes}
use Rattle.chart.specs.Format.{decode}
use Rattle.chart.specs.Region.{Region}
use Rattle.chart.specs.Reading.{region_of}
use Rattle.chart.specs.Refusal.{first_of}
use Rattle.chart.specs.declared.format.Refusal.{Refusal}
use Rattle.chart.proofs.Rows.{first-decides, second-decides}
use Rattle.theory_paths.specs.Admission.{region_rows}
use Rattle.theory_answers.specs.Answer.{answer_for}
use Rattle.theory_answers.specs.declared.Size.{Size}
use Rattle.theory_calls.specs.Claims.{total, is_false}
use Rattle.theory_calls.specs.Verdict.{Verdict}
use Rattle.theory_calls.specs.Judged.{claim_rows, judge_rows_for, verdict, answered, judged_for}

-- a chart that is refused decides every list's verdict, and on another its own rows and claims do
module _ (s : List ℕ) (p : ℕ) (size : Size) (claims : List ℕ) where
  abbrev R : Region
  R = region_of p (decode s)

  pub refused-judged : (refusal : Refusal) → first_of (region_rows s p) ≡ some refusal → Err refusal ≡ judged_for s p size claims
  unfolding judged_for judge_rows_for answered
  refused-judged refusal h = rw (first-decides (region_rows s p) (claim_rows R size claims) _ h)

  pub listed-judged : (v : Result Verdict Refusal) → first_of (region_rows s p) ≡ none → v ≡ answered (first_of (claim_rows R size claims)) (verdict (answer_for R size) claims) → v ≡ judged_for s p size claims
  unfolding judged_for judge_rows_for
  listed-judged v h q = rw (second-decides (region_rows s p) (claim_rows R size claims) h) q

-- a list fails at one of its claims
pub failed-below : (s : List ℕ) (p : ℕ) (size : Size) (claims : List ℕ) (index : ℕ) → judged_for s p size claims ≡ Ok (Some index) → index < total claims
unfolding judged_for verdict answered
failed-below s p size claims index h = go (first_of (judge_rows_for s p size claims)) h
  where
    f : ℕ → Bool
    f = is_false (answer_for (region_of p (decode s)) size) claims

    here : (any (total claims) f ≡ true) ⊎ (any (total claims) f ≡ false) → cond (any (total claims) f) (Some (first (total claims) f)) None ≡ Some index → index < total claims
    here (inl g) e =
        let failed : Some (first (total claims) f) ≡ Some index = rw g at e in
        let same : first (total claims) f ≡ index = cc in
        omega (arith, (first_passes (total claims) f g).0)
    here (inr g) e = let passed : ◌≡◌ {A = Verdict} None (Some index) = rw g at e in absurd (bad (cc))

    go : (o : Option Refusal) → answered o (verdict (answer_for (region_of p (decode s)) size) claims) ≡ Ok (Some index) → index < total claims
    go none e = here (truth (any (total claims) f)) (cc)
    go (some refusal) e = absurd (bad (cc))
