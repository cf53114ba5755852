-- More edges only loosen (02, Note 8), said of runs and of Judge, for any team and for teams of one size: what is concurrent in the smaller chart
-- is concurrent in the larger, so that a list of claims which passes in the larger passes in the smaller. One that fails in the larger may pass in
-- the smaller, or fail further on.
-- Assumes nothing.
use Rattle.std.specs.Prelude.{◌≡◌, Bool, true, not, List, ℕ, ◌<◌, ℤ, pos, length, get_or}
use Rattle.std.proofs.Common.{ap, ◌∙◌, eqb-true, eq-eqb}
use Rattle.std.proofs.Math.Logic.{inl, inr}
use Rattle.std.proofs.Math.Option.{none}
use Rattle.lists.specs.Truth.{clash, truth}
use Rattle.lists.specs.Range.{any_same}
use Rattle.chart.specs.Format.{decode}
use Rattle.chart.specs.Region.{Region}
use Rattle.chart.specs.Reading.{region_of}
use Rattle.chart.specs.Refusal.{first_of}
use Rattle.chart.proofs.Rows.{second-decides, both-pass}
use Rattle.theory_paths.specs.Admission.{region_rows, Admitted, AdmittedIn}
use Rattle.theory_answers.specs.Answer.{answer_for}
use Rattle.theory_answers.specs.Numbers.{bad_number}
use Rattle.theory_answers.specs.MoreEdges.{MoreEdges, Widens}
use Rattle.theory_answers.proofs.MoreEdgesLaws.{same_asked, widens, smaller-in, more-edges-loosen}
use Rattle.theory_answers.specs.declared.Size.{Size}
use Rattle.theory_calls.specs.Claims.{total, left, right, bad_numbers, is_false}
use Rattle.theory_calls.specs.Judged.{claim_rows, judge_rows_for}
use Rattle.theory_calls.proofs.CorrectLaws.{ConcurrentAt, CorrectFor, false-concurrent}

-- rows 12, 13 and 21 do not depend on edges
same_rows : {R S : Region} → Widens R S → (size : Size) (claims : List ℕ) → claim_rows S size claims ≡ claim_rows R size claims
unfolding claim_rows bad_numbers bad_number
same_rows X size claims = rw (any_same (length claims) _ _ (λ j l. ap not (same_asked X (get_or claims j 0))))

module _ (s t : List ℕ) (p : ℕ) (size : Size) (claims : List ℕ) (smaller : Admitted s) (larger : first_of (judge_rows_for t p size claims) ≡ none)
    (M : MoreEdges (decode s) (decode t)) where
  larger-in : AdmittedIn t p
  unfolding judge_rows_for
  larger-in = (both-pass (region_rows t p) (claim_rows (region_of p (decode t)) size claims) larger).0

  pub smaller-judged : first_of (judge_rows_for s p size claims) ≡ none
  unfolding judge_rows_for
  smaller-judged =
      second-decides (region_rows s p) (claim_rows (region_of p (decode s)) size claims) (smaller-in s t p smaller larger-in M)
      ∙ rw (same_rows (widens M p) size claims) at (both-pass (region_rows t p) (claim_rows (region_of p (decode t)) size claims) larger).1

  abbrev false-in : List ℕ → ℕ → Bool
  false-in chart = is_false (answer_for (region_of p (decode chart)) size) claims

  still_false : (k : ℕ) → false-in s k ≡ true → false-in t k ≡ true
  unfolding is_false
  still_false k h = elim (truth (false-in t k)) [
    | inl g ↦ g
    | inr g ↦ absurd (more-edges-loosen s t p smaller larger-in M size (left claims k) (right claims k) (λ z. clash (eq-eqb _ _ z) g) (eqb-true _ _ h))
  ]

  pub more-concurrent : (k : ℕ) → k < total claims → ConcurrentAt s p size claims k → ConcurrentAt t p size claims k
  more-concurrent k l c = (false-concurrent t p size claims larger k l).0 (still_false k ((false-concurrent s p size claims smaller-judged k l).1 c))

  -- Whatever numbers are right for the two, 0 for the larger is 0 for the smaller.
  pub judge-loosens : (m n : ℤ) → CorrectFor t p size claims m → CorrectFor s p size claims n → m ≡ pos 0 → n ≡ pos 0
  judge-loosens m n C D z = (D.passes smaller-judged).1 (λ k l c. (C.passes larger).0 z k l (more-concurrent k l c))
