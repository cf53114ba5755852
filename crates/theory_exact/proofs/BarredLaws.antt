-- What excludes two nodes in every run: the tests decide it, and an answer tells it.
-- Assumes nothing.
use Rattle.std.specs.Prelude.{◌≡◌, ◌⊎◌, ◌↔◌, true, ◌&&◌, ℕ, ◌≤◌}
use Rattle.std.proofs.Common.{inl, inr, arith, leb-true, le-leb}
use Rattle.lists.specs.Means.{both_of, either-of, unless, some_of}
use Rattle.lists.specs.Range.{any}
use Rattle.chart.specs.Region.{Region}
use Rattle.chart.specs.WellFormed.{WellFormed}
use Rattle.theory_paths.specs.Phases.{forward, Boundary, is_boundary}
use Rattle.theory_paths.specs.PhasesLaws.{boundary-means, returns-means}
use Rattle.theory_answers.specs.Unexcluded.{Common, Rule, by-phase, by-master, by-single, by-ordered, by-section, Excludes, first, none, Answers, Lacks, HasThreads, alone, lacking, fitting, AnswersFor}
use Rattle.theory_answers.proofs.AnswerLaws.{no-common-of, masters-of, single_of, ordereds-of, section-of}
use Rattle.theory_answers.proofs.SizeLaws.{lacks-of}
use Rattle.theory_answers.specs.declared.Size.{Size}
use Rattle.theory_answers.specs.declared.Size.TheVariants.{Any, Of}
use Rattle.theory_exact.specs.Barred.{Barred, no_start, by-rule, BarredIn, one-thread, no-thread, in_all, BarredFor, Unbarred, is_barred, is_barred_in, is_barred_for}

-- What is excluded so is excluded by the rules.
pub barred-excluded : {R : Region} {a b : ℕ} → Barred R a b → (r : Rule) × Excludes R a b r
barred-excluded (no_start n) = (by-phase, (forward, n))
barred-excluded (by-rule r l e) = (r, e)

-- An answer from 2 on says that a and b are, and so does "no common start".
answers-barred : {R : Region} {a b k : ℕ} → Answers R a b k → 2 ≤ k → Barred R a b
answers-barred (first r p f) l = by-rule r l p
answers-barred (none f) l = absurd (omega arith)

module _ (R : Region) (a b : ℕ) where
  pub answered-barred : (size : Size) {k : ℕ} → AnswersFor R size a b k → 2 ≤ k → BarredFor R size a b
  answered-barred Any A l = answers-barred A l
  answered-barred (Of m) (alone h) l = one-thread h
  answered-barred (Of m) (lacking two h) l = no-thread h
  answered-barred (Of m) (fitting two f g A) l = in_all (answers-barred A l)

  pub start-barred : (size : Size) → (Common (Boundary forward R) a b → ⊥) → BarredFor R size a b
  start-barred Any n = no_start n
  start-barred (Of m) n = in_all (no_start n)

-- What is left to the others is left to no pair that is excluded so.
pub unbarred-not : {R : Region} {a b : ℕ} → Unbarred R a b → Barred R a b → ⊥
unbarred-not U (no_start n) = n U.start
unbarred-not U (by-rule by-phase l e) = omega arith
unbarred-not U (by-rule by-master l (c, (d, (((k, i), (h, j)), e)))) = U.masters c d k h i j e
unbarred-not U (by-rule by-single l (c, (((k, i), (h, j)), n))) = n (U.singles c k i j)
unbarred-not U (by-rule by-ordered l (d, ((x, y), n))) = n (U.ordereds d x y)
unbarred-not U (by-rule by-section l (s, ((x, y), n))) = n (U.sections s x y)

lacks-has : (R : Region) (m x : ℕ) → Lacks R m x → HasThreads R m x → ⊥
lacks-has R m x (c, ((k, i), l)) f = omega (arith, f c k i)

pub fitting-not : {R : Region} {m a b : ℕ} → 2 ≤ m → HasThreads R m a → HasThreads R m b → Unbarred R a b → BarredIn R m a b → ⊥
fitting-not two fa fb U (one-thread l) = omega arith
fitting-not {R} {m} {a} two fa fb U (no-thread (inl h)) = lacks-has R m a h fa
fitting-not {R} {m} {b = b} two fa fb U (no-thread (inr h)) = lacks-has R m b h fb
fitting-not two fa fb U (in_all h) = unbarred-not U h

module _ {R : Region} (W : WellFormed R) (a b : ℕ) where
  -- The test.
  pub barred-of : (is_barred R a b ≡ true) ↔ Barred R a b
  unfolding is_barred
  barred-of = ((λ h. to (parts.0 h)), λ h. parts.1 (from h))
    where
      Parts : Type 0
      Parts = (Common (Boundary forward R) a b → ⊥) ⊎ (Excludes R a b by-master ⊎ (Excludes R a b by-single ⊎ (Excludes R a b by-ordered ⊎ Excludes R a b by-section)))

      parts : (is_barred R a b ≡ true) ↔ Parts
      parts = either-of (no-common-of W a b forward) (either-of (masters-of W a b) (either-of (single_of W a b) (either-of (ordereds-of W a b) (section-of W a b))))

      to : Parts → Barred R a b
      to (inl n) = no_start n
      to (inr (inl e)) = by-rule by-master (omega arith) e
      to (inr (inr (inl e))) = by-rule by-single (omega arith) e
      to (inr (inr (inr (inl e)))) = by-rule by-ordered (omega arith) e
      to (inr (inr (inr (inr e)))) = by-rule by-section (omega arith) e

      from : Barred R a b → Parts
      from (no_start n) = inl n
      from (by-rule by-phase l e) = absurd (omega arith)
      from (by-rule by-master l e) = inr (inl e)
      from (by-rule by-single l e) = inr (inr (inl e))
      from (by-rule by-ordered l e) = inr (inr (inr (inl e)))
      from (by-rule by-section l e) = inr (inr (inr (inr e)))

  pub barred-in-of : (m : ℕ) → (is_barred_in R m a b ≡ true) ↔ BarredIn R m a b
  unfolding is_barred_in
  barred-in-of m = ((λ h. to (parts.0 h)), λ h. parts.1 (from h))
    where
      Parts : Type 0
      Parts = (m ≤ 1) ⊎ ((Lacks R m a ⊎ Lacks R m b) ⊎ Barred R a b)

      parts : (is_barred_in R m a b ≡ true) ↔ Parts
      parts = either-of (leb-true m 1, le-leb m 1) (either-of (either-of (lacks-of W m a) (lacks-of W m b)) barred-of)

      to : Parts → BarredIn R m a b
      to (inl l) = one-thread l
      to (inr (inl h)) = no-thread h
      to (inr (inr h)) = in_all h

      from : BarredIn R m a b → Parts
      from (one-thread l) = inl l
      from (no-thread h) = inr (inl h)
      from (in_all h) = inr (inr h)

  pub barred-for-of : (size : Size) → (is_barred_for R size a b ≡ true) ↔ BarredFor R size a b
  barred-for-of Any = barred-of
  barred-for-of (Of m) = barred-in-of m

  -- Where nothing excludes the pair, the rest is left to it.
  pub not-barred : (Barred R a b → ⊥) → Unbarred R a b
  not-barred f = record {
    start = unless _ common-of (λ n. f (no_start n));
    masters = λ c d k l i j q. f (by-rule by-master (omega arith) (c, (d, (((k, i), (l, j)), q))));
    singles = λ c k i j. unless _ (returns-means R W c) (λ n. f (by-rule by-single (omega arith) (c, (((k, i), (k, j)), n))));
    ordereds = λ d x y. unless _ (returns-means R W d) (λ n. f (by-rule by-ordered (omega arith) (d, ((x, y), n))));
    sections = λ s x y. unless _ (returns-means R W (R.parent s)) (λ n. f (by-rule by-section (omega arith) (s, ((x, y), n))));
  }
    where
      common-of : (any R.nodes (λ s. is_boundary forward R a s && is_boundary forward R b s) ≡ true) ↔ Common (Boundary forward R) a b
      common-of = some_of R.nodes _ (λ s. Boundary forward R a s × Boundary forward R b s)
          (λ s. both_of (boundary-means R W forward a s) (boundary-means R W forward b s)) (λ s h. W.barrier-below h.0.is-barrier)
