-- Lists of numbers that are stored into: an element after a store, a list of zeros, and how many elements are not 0.
-- Assumes nothing.
use Rattle.std.specs.Prelude.{◌≡◌, refl, List, [], ◌∷◌, ℕ, zero, suc, ◌+◌, ◌≤◌, ◌<◌, length, get_or, set, replicate}
use Rattle.std.proofs.Common.{ap, sym, subst, ◌∙◌, arith, get_or-set_same, get_or-set_other}
use Rattle.std.proofs.Math.Decide.{ℕ_discrete, dec_lt}

-- an element after a store, by cases on whether it is the one that was stored
pub at_set : (P : ℕ → Type 0) (l : List ℕ) (i v j : ℕ) → i < length l → (j ≡ i → P v) → ((j ≡ i → ⊥) → P (get_or l j 0))
    → P (get_or (set l i v) j 0)
at_set P l i v j h f g = go (ℕ_discrete j i)
  where
    go : Dec (j ≡ i) → P (get_or (set l i v) j 0)
    go (yes e) = rw (e, get_or-set_same l i v 0 h) (f e)
    go (no n) = rw (get_or-set_other l i j v 0 n) (g n)

-- the turn of a loop that stores once at each index
pub stored : (P : ℕ → ℕ → Type 0) (l : List ℕ) (i v : ℕ) → i < length l → P i v → ((j : ℕ) → j < i → P j (get_or l j 0))
    → (j : ℕ) → j < i + 1 → P j (get_or (set l i v) j 0)
stored P l i v b p old j h = at_set (P j) l i v j b (λ q. subst (λ (j : ℕ). P j v) (sym q) p) (λ d. old j (omega arith))

pub zeros : (n i : ℕ) → get_or {A = ℕ} (replicate n 0) i 0 ≡ 0
zeros zero i = refl
zeros (suc n) zero = refl
zeros (suc n) (suc i) = zeros n i

-- how many elements are not 0

some : ℕ → ℕ
some zero = 0
some (suc n) = 1

pub filled : List ℕ → ℕ
filled [] = 0
filled (x ∷ xs) = some x + filled xs

some-le : (n : ℕ) → some n ≤ 1
unfolding some
some-le zero = omega arith
some-le (suc n) = omega arith

some-pos : (n : ℕ) → 0 < n → some n ≡ 1
unfolding some
some-pos zero h = absurd (omega arith)
some-pos (suc n) h = refl

pub filled-le : (l : List ℕ) → filled l ≤ length l
unfolding filled
filled-le [] = omega arith
filled-le (x ∷ l) = omega (arith, some-le x, filled-le l)

-- an element that is 0 leaves room for one more
pub filled-lt : (l : List ℕ) (i : ℕ) → i < length l → get_or l i 0 ≡ 0 → filled l < length l
unfolding filled some
filled-lt [] i h e = omega arith
filled-lt (x ∷ l) zero h e = let f : some x ≡ 0 = ap some e in omega (arith, filled-le l, f)
filled-lt (x ∷ l) (suc i) h e = omega (arith, some-le x, filled-lt l i (omega arith) e)

-- a store of a number that is not 0: one more, where there was 0
pub filled-set : (l : List ℕ) (i v : ℕ) → i < length l → get_or l i 0 ≡ 0 → 0 < v → filled (set l i v) ≡ suc (filled l)
unfolding filled some
filled-set [] i v h e p = omega arith
filled-set (x ∷ l) zero v h e p = let f : some x ≡ 0 = ap some e in omega (arith, some-pos v p, f)
filled-set (x ∷ l) (suc i) v h e p = omega (arith, filled-set l i v (omega arith) e p)

-- and no less anywhere
pub filled-keep : (l : List ℕ) (i v : ℕ) → 0 < v → filled l ≤ filled (set l i v)
unfolding filled
filled-keep [] i v p = omega arith
filled-keep (x ∷ l) zero v p = omega (arith, some-le x, some-pos v p)
filled-keep (x ∷ l) (suc i) v p = omega (arith, filled-keep l i v p)

-- any store takes at most one away
pub filled-unset : (l : List ℕ) (i v : ℕ) → filled l ≤ filled (set l i v) + 1
unfolding filled
filled-unset [] i v = omega arith
filled-unset (x ∷ l) zero v = omega (arith, some-le x)
filled-unset (x ∷ l) (suc i) v = omega (arith, filled-unset l i v)

-- The first i elements are f 0, f 1, .. and the others are 0: a list of zeros that is written from its front.
pub record Written (f : ℕ → ℕ) (i : ℕ) (l : List ℕ) : Type 0 where
  pub at : (j : ℕ) → j < i → get_or l j 0 ≡ f j
  pub past : (j : ℕ) → i ≤ j → get_or l j 0 ≡ 0

pub written_none : (f : ℕ → ℕ) (n : ℕ) → Written f 0 (replicate n 0)
written_none f n = record { at = λ j l. absurd (omega arith); past = λ j l. zeros n j }

pub written-more : {f : ℕ → ℕ} {i : ℕ} {l : List ℕ} (v : ℕ) → i < length l → v ≡ f i → Written f i l → Written f (i + 1) (set l i v)
written-more {f} {i} {l} v b e w = record {
  at = λ j m. at_set (λ k. k ≡ f j) l i v j b (λ q. rw q e) (λ n. w.at j (omega arith));
  past = λ j m. at_set (λ k. k ≡ 0) l i v j b (λ q. absurd (omega arith)) (λ n. w.past j (omega arith));
}

-- where f itself is 0 from i on, the list has f everywhere
pub written_all : {f : ℕ → ℕ} {i : ℕ} {l : List ℕ} → Written f i l → ((j : ℕ) → i ≤ j → f j ≡ 0) → (j : ℕ) → get_or l j 0 ≡ f j
written_all {f} {i} {l} w z j = elim (dec_lt j i) [ yes b ↦ w.at j b | no b ↦ w.past j (omega arith) ∙ sym (z j (omega arith)) ]
