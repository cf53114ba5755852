-- What an answer for teams of one size means (02, Note 10), and what holds of the answers for one size as for all: the number that is computed is
-- the answer and nothing else is, it is at most 7, and the same both ways round.
-- Assumes nothing.
use Rattle.std.specs.Prelude.{◌≡◌, refl, ◌⊎◌, ◌↔◌, ◌≢◌, true, false, ◌||◌, ℕ, ◌≤◌, ◌<◌, leb}
use Rattle.std.proofs.Common.{◌∙◌, subst, inl, inr, arith}
use Rattle.std.proofs.Math.Decide.{dec_lt}
use borrow.Author.Tests.{leb-true, le-leb, leb-false}
use Rattle.lists.specs.Truth.{clash, truth, false-if}
use Rattle.lists.specs.Means.{both_of, some_of}
use Rattle.chart.specs.Region.{master, Region}
use Rattle.chart.specs.WellFormed.{WellFormed}
use Rattle.theory_answers.specs.Answer.{lacks_thread, answer_in, answer_for}
use Rattle.theory_answers.specs.Unexcluded.{In, Rule, by-phase, by-master, by-single, by-ordered, by-section, First, first, none, Answers, Lacks, HasThreads, AnswersIn, alone, lacking, fitting, AnswersFor, Unexcluded}
use Rattle.theory_answers.proofs.AnswerLaws.{in-of, first-unique, first-swap, answer-first, answer-unexcluded, answer-symmetric, cond-most, answer-most}
use Rattle.theory_answers.specs.declared.Size.{Size}
use Rattle.theory_answers.specs.declared.Size.TheVariants.{Any, Of}

-- a team has the threads that it needs exactly when it lacks none
module _ (R : Region) (m x : ℕ) where
  pub has_all : HasThreads R m x → Lacks R m x → ⊥
  has_all f (c, ((k, i), l)) = over (f c k i) l
    where
      over : {i j : ℕ} → j < i → i ≤ j → ⊥
      over a b = omega arith

  has-none : (Lacks R m x → ⊥) → HasThreads R m x
  has-none f c k i = below (λ l. f (c, ((k, i), l)))
    where
      below : {i j : ℕ} → (i ≤ j → ⊥) → j < i
      below {i} {j} f = elim (dec_lt j i) [ yes l ↦ l | no l ↦ absurd (f (omega arith)) ]

-- a rule's number is no 255
rule-number : {P : Rule → Type 0} {k : ℕ} → First P k → k ≢ 255
rule-number (first by-phase p f) e = omega arith
rule-number (first by-master p f) e = omega arith
rule-number (first by-single p f) e = omega arith
rule-number (first by-ordered p f) e = omega arith
rule-number (first by-section p f) e = omega arith
rule-number (none f) e = omega arith

-- There is one answer.
module _ (R : Region) (a b : ℕ) where
  in-unique : (m : ℕ) {j k : ℕ} → AnswersIn R m a b j → AnswersIn R m a b k → j ≡ k
  in-unique m (alone l) (alone h) = refl
  in-unique m (alone l) (lacking h x) = absurd (omega arith)
  in-unique m (alone l) (fitting h x y A) = absurd (omega arith)
  in-unique m (lacking l x) (alone h) = absurd (omega arith)
  in-unique m (lacking l x) (lacking h y) = refl
  in-unique m (lacking l (inl x)) (fitting h f g A) = absurd (has_all R m a f x)
  in-unique m (lacking l (inr x)) (fitting h f g A) = absurd (has_all R m b g x)
  in-unique m (fitting l f g A) (alone h) = absurd (omega arith)
  in-unique m (fitting l f g A) (lacking h (inl x)) = absurd (has_all R m a f x)
  in-unique m (fitting l f g A) (lacking h (inr x)) = absurd (has_all R m b g x)
  in-unique m (fitting l f g A) (fitting h x y B) = first-unique A B

  pub for-unique : (size : Size) {j k : ℕ} → AnswersFor R size a b j → AnswersFor R size a b k → j ≡ k
  for-unique Any A B = first-unique A B
  for-unique (Of m) A B = in-unique m A B

  -- and none is 255, which stands for a barrier in a sheet
  pub answer-number : (size : Size) {k : ℕ} → AnswersFor R size a b k → k ≢ 255
  answer-number Any A = rule-number A
  answer-number (Of m) A = go A
    where
      go : {k : ℕ} → AnswersIn R m a b k → k ≢ 255
      go (alone l) e = omega arith
      go (lacking l x) e = omega arith
      go (fitting l f g B) e = rule-number B e

module _ {R : Region} (W : WellFormed R) (m : ℕ) where
  pub lacks-of : (x : ℕ) → (lacks_thread R m x ≡ true) ↔ Lacks R m x
  unfolding lacks_thread
  lacks-of x = some_of R.constructs _ (λ c. In R master x c × (m ≤ R.thread c))
      (λ c. both_of (in-of R master x c) (leb-true m (R.thread c), le-leb m (R.thread c))) (λ c h. W.inside-below h.0.1)

  has_of : (x : ℕ) → (lacks_thread R m x ≡ false) ↔ HasThreads R m x
  has_of x = ((λ h. has-none R m x (λ l. clash ((lacks-of x).1 l) h)), λ f. false-if (λ h. has_all R m x f ((lacks-of x).0 h)))

  module _ (a b : ℕ) where
    in-first : AnswersIn R m a b (answer_in R m a b)
    unfolding answer_in
    in-first = go (truth (leb m 1)) (truth (lacks_thread R m a)) (truth (lacks_thread R m b))
      where
        go : (leb m 1 ≡ true) ⊎ (leb m 1 ≡ false) → (lacks_thread R m a ≡ true) ⊎ (lacks_thread R m a ≡ false) → (lacks_thread R m b ≡ true) ⊎ (lacks_thread R m b ≡ false)
            → AnswersIn R m a b (answer_in R m a b)
        go (inl h) x y = rw h (alone (leb-true m 1 h))
        go (inr h) (inl x) y = rw (h, x) (lacking (leb-false m 1 h) (inl ((lacks-of a).0 x)))
        go (inr h) (inr x) (inl y) = rw (h, x, y) (lacking (leb-false m 1 h) (inr ((lacks-of b).0 y)))
        go (inr h) (inr x) (inr y) = rw (h, x, y) (fitting (leb-false m 1 h) ((has_of a).0 x) ((has_of b).0 y) (answer-first W a b))

    -- The answer for teams of m is 0 exactly when the team has two threads and those that it needs, and no rule excludes the pair.
    pub answer-in : (answer_in R m a b ≡ 0) ↔ ((2 ≤ m) × HasThreads R m a × HasThreads R m b × Unexcluded R a b)
    answer-in = (
      (λ e. to in-first e),
      λ (two, f, g, D). in-unique R a b m in-first (fitting two f g (subst (Answers R a b) ((answer-unexcluded W a b).1 D) (answer-first W a b))),
    )
      where
        to : {k : ℕ} → AnswersIn R m a b k → k ≡ 0 → (2 ≤ m) × HasThreads R m a × HasThreads R m b × Unexcluded R a b
        to (alone l) e = absurd (omega arith)
        to (lacking l x) e = absurd (omega arith)
        to (fitting two f g A) e = (two, f, g, (answer-unexcluded W a b).0 (first-unique (answer-first W a b) A ∙ e))

module _ {R : Region} (W : WellFormed R) where
  -- What is computed is the answer.
  pub answer-for : (size : Size) (a b : ℕ) → AnswersFor R size a b (answer_for R size a b)
  answer-for Any a b = answer-first W a b
  answer-for (Of m) a b = in-first W m a b

  pub answer-for-symmetric : (size : Size) (a b : ℕ) → answer_for R size a b ≡ answer_for R size b a
  answer-for-symmetric Any a b = answer-symmetric W a b
  answer-for-symmetric (Of m) a b = in-unique R b a m (turned (in-first W m a b)) (in-first W m b a)
    where
      turned : {k : ℕ} → AnswersIn R m a b k → AnswersIn R m b a k
      turned (alone l) = alone l
      turned (lacking l (inl x)) = lacking l (inr x)
      turned (lacking l (inr x)) = lacking l (inl x)
      turned (fitting l f g A) = fitting l g f (first-swap R a b A)

pub answer-for-most : (R : Region) (size : Size) (a b : ℕ) → answer_for R size a b ≤ 7
unfolding answer_in
answer-for-most R Any a b = omega (arith, answer-most R a b)
answer-for-most R (Of m) a b = cond-most (leb m 1) 6 _ (omega arith) (cond-most (lacks_thread R m a || lacks_thread R m b) 7 _ (omega arith) (omega (arith, answer-most R a b)))
