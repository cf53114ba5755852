-- Judge is correct: demand 3 holds of the number that its definition gives, for all bytes. A pair is concurrent exactly when it is answered
-- 0, which is the theorem of crate theory_exact; what is left is that the verdict is about the first such pair.
-- Assumes nothing.
use Rattle.std.specs.Prelude.{◌≡◌, ◌⊎◌, ◌↔◌, Bool, true, false, cond, List, ℕ, ◌+◌, ◌*◌, ◌<◌, ℤ, length, get_or, Ok, Some, None}
use Rattle.std.proofs.Math.Path.{refl, subst}
use Rattle.std.proofs.Common.{sym, ◌∙◌, inl, inr, arith}
use Rattle.std.proofs.Math.Option.{Option, none, some}
use Rattle.std.proofs.Math.IntN.{pos}
use borrow.Author.Tests.{eqb-true, eq-eqb}
use Rattle.lists.specs.Truth.{clash, truth, false-if}
use Rattle.lists.specs.Range.{any, first, any_none, none_passes, at-any, first_passes, first-least, first-is}
use Rattle.chart.specs.Format.{decode}
use Rattle.chart.specs.Region.{Region}
use Rattle.chart.specs.Reading.{region_of}
use Rattle.chart.specs.WellFormed.{WellFormed}
use Rattle.chart.specs.Refusal.{first_of}
use Rattle.chart.proofs.Rows.{none-applies, both-pass}
use Rattle.theory_paths.specs.Path.{Open}
use Rattle.theory_paths.specs.Admission.{region_rows}
use Rattle.theory_exact.specs.Answered.{ConcurrentFor}
use Rattle.theory_exact.proofs.AnsweredFor.{chart-exact}
use Rattle.theory_answers.specs.Answer.{answer_for}
use Rattle.theory_answers.specs.Numbers.{bad_number, good-open, good-number}
use Rattle.theory_answers.specs.declared.Size.{Size}
use Rattle.theory_answers.specs.declared.Size.TheVariants.{Any, Of}
use Rattle.theory_calls.specs.Claims.{total, left, right, bad_numbers, is_false}
use Rattle.theory_calls.specs.Judged.{claim_rows, judge_rows_for, verdict, answered, judged_for, judged, number_of}
use Rattle.theory_calls.specs.Correct.{Right, Correct, CorrectIn}
use Rattle.chart.specs.declared.format.Refusal.{Refusal}

-- The number for the first of n that passes f, where f tests for P.
module _ (n : ℕ) (f : ℕ → Bool) (P : ℕ → Type 0) (means : (k : ℕ) → k < n → (f k ≡ true) ↔ P k) where
  abbrev number : ℤ
  number = number_of (Ok (cond (any n f) (Some (first n f)) None))

  not-zero : (k : ℕ) → pos (k + 1) ≡ pos 0 → ⊥
  not-zero k e = let q : k + 1 ≡ 0 = cc in omega arith

  passes : (number ≡ pos 0) ↔ ((k : ℕ) → k < n → P k → ⊥)
  unfolding number_of
  passes = go (truth (any n f))
    where
      go : (any n f ≡ true) ⊎ (any n f ≡ false) → (number ≡ pos 0) ↔ ((k : ℕ) → k < n → P k → ⊥)
      go (inl g) = let (l, p) = first_passes n f g in rw g ((λ e. absurd (not-zero (first n f) e)), λ no. absurd (no (first n f) l ((means (first n f) l).0 p)))
      go (inr g) = rw g ((λ e k l M. clash ((means k l).1 M) (none_passes n f g k l)), λ no. refl)

  -- k is the first that has P
  abbrev First : ℕ → Type 0
  First k = (k < n) × P k × ((j : ℕ) → j < k → P j → ⊥)

  found : any n f ≡ true → First (first n f)
  found g =
      let (l, p) = first_passes n f g in
      (l, (means (first n f) l).0 p, λ j m M. clash ((means j (omega arith)).1 M) (first-least n f j m))

  first_found : (k : ℕ) → First k → (any n f ≡ true) × (first n f ≡ k)
  first_found k (l, M, before) =
      let p = (means k l).1 M in
      (at-any n f k l p, first-is n f k l p (any_none k f (λ j m. false-if (λ q. before j m ((means j (omega arith)).0 q)))))

  fails : (k : ℕ) → (number ≡ pos (k + 1)) ↔ First k
  unfolding number_of
  fails k = (to (truth (any n f)), λ F. let (g, q) = first_found k F in rw (g, q))
    where
      to : (any n f ≡ true) ⊎ (any n f ≡ false) → number ≡ pos (k + 1) → First k
      to (inl g) e = let e' : pos (first n f + 1) ≡ pos (k + 1) = rw g at e in let q : first n f + 1 ≡ k + 1 = cc in subst First (omega arith) (found g)
      to (inr g) e = absurd (not-zero k (sym (rw g at e)))

-- the numbers of a list that row 13 lets pass are those of nodes, none of them a barrier
module _ (R : Region) (claims : List ℕ) (h : bad_numbers R claims ≡ false) (j : ℕ) (l : j < length claims) where
  good : bad_number R (get_or claims j 0) ≡ false
  unfolding bad_numbers
  good = none_passes (length claims) (λ j. bad_number R (get_or claims j 0)) h j l

  open-numbers : Open R (get_or claims j 0)
  open-numbers = good-open R (get_or claims j 0) good

  pub good-numbers : WellFormed R → (get_or claims j 0 < R.nodes) × Open R (get_or claims j 0)
  good-numbers W = good-number R (get_or claims j 0) W good

-- Pair k of the list is concurrent, in some team or in a team of the size; and the number is right for the list.
abbrev pub ConcurrentAt : List ℕ → ℕ → Size → List ℕ → ℕ → Type 0
ConcurrentAt s p size claims k = ConcurrentFor (region_of p (decode s)) size (left claims k) (right claims k)

abbrev pub CorrectFor : List ℕ → ℕ → Size → List ℕ → ℤ → Type 0
CorrectFor s p size claims = Right (judge_rows_for s p size claims) (total claims) (ConcurrentAt s p size claims)

module _ (s : List ℕ) (p : ℕ) (size : Size) (claims : List ℕ) where
  abbrev false-at : ℕ → Bool
  false-at = is_false (answer_for (region_of p (decode s)) size) claims

  -- in a list that is not refused, a claim is false exactly when its pair is concurrent
  pub false-concurrent : first_of (judge_rows_for s p size claims) ≡ none → (k : ℕ) → k < total claims → (false-at k ≡ true) ↔ ConcurrentAt s p size claims k
  unfolding judge_rows_for claim_rows total left right is_false
  false-concurrent h k l =
      let R = region_of p (decode s) in
      let (admitted, rest) = both-pass (region_rows s p) (claim_rows R size claims) h in
      let free = open-numbers R claims (none-applies (claim_rows R size claims) rest).1.0 in
      let E = chart-exact s p admitted size _ _ (free (2 * k) (omega arith)) (free (2 * k + 1) (omega arith)) in
      ((λ e. E.0 (eqb-true _ _ e)), λ M. eq-eqb _ _ (E.1 M))

  -- Demand 3, of any team and of teams of one size.
  pub judged-correct : CorrectFor s p size claims (number_of (judged_for s p size claims))
  unfolding judged_for answered verdict number_of
  judged-correct = record {
    refuses = λ row h. rw h;
    passes = λ h. rw h (passes (total claims) false-at (ConcurrentAt s p size claims) (false-concurrent h));
    fails = λ h. rw h (fails (total claims) false-at (ConcurrentAt s p size claims) (false-concurrent h));
  }

  -- No other number is correct.
  pub correct-only : (number : ℤ) → CorrectFor s p size claims number → number ≡ number_of (judged_for s p size claims)
  unfolding judged_for answered verdict number_of
  correct-only number C = go (first_of (judge_rows_for s p size claims)) refl
    where
      J : CorrectFor s p size claims (number_of (judged_for s p size claims))
      J = judged-correct

      go : (o : Option Refusal) → first_of (judge_rows_for s p size claims) ≡ o → number ≡ number_of (judged_for s p size claims)
      go (some row) h = C.refuses row h ∙ sym (J.refuses row h)
      go none h = elim (truth (any (total claims) false-at)) [
        | inl g ↦ (let z : number_of (judged_for s p size claims) ≡ pos (first (total claims) false-at + 1) = rw (h, g) in (C.fails h _).1 ((J.fails h _).0 z) ∙ sym z)
        | inr g ↦ (let z : number_of (judged_for s p size claims) ≡ pos 0 = rw (h, g) in (C.passes h).1 ((J.passes h).0 z) ∙ sym z)
      ]

-- So Judge's number is correct, without a size and with one.
pub correct-any : (s : List ℕ) (p : ℕ) (claims : List ℕ) → Correct s p claims (number_of (judged s p claims))
correct-any s p claims = judged-correct s p Any claims

pub correct-in : (s : List ℕ) (p m : ℕ) (claims : List ℕ) → CorrectIn s p m claims (number_of (judged_for s p (Of m) claims))
correct-in s p m claims = judged-correct s p (Of m) claims
