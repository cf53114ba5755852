-- Counting over the numbers that a list was selected for: where only these can pass, nothing is left out.
-- Assumes nothing.
use Rattle.std.specs.Prelude.{◌≡◌, refl, ◌⊎◌, Bool, true, false, cond, [], ◌∷◌, ◌++◌, ℕ, zero, suc, ◌+◌, ◌<◌, length, get_or}
use Rattle.std.proofs.Common.{ap, sym, ◌∙◌, inl, inr, arith, length-append}
use Rattle.lists.specs.Truth.{clash, truth, false-if}
use Rattle.lists.specs.Range.{count, count_pairs, count_none}
use Rattle.lists.specs.Select.{select, append_at, append-off}

-- f 0 + f 1 + .., of n numbers
unfoldable sum : ℕ → (ℕ → ℕ) → ℕ
sum zero f = 0
sum (suc n) f = sum n f + f n

sum_same : (n : ℕ) (f g : ℕ → ℕ) → ((k : ℕ) → k < n → f k ≡ g k) → sum n f ≡ sum n g
unfolding sum
sum_same zero f g h = refl
sum_same (suc n) f g h = rw (sum_same n f g (λ k l. h k (omega arith)), h n (omega arith))

count-sum : (n : ℕ) (f : ℕ → Bool) → count n f ≡ sum n (λ x. cond (f x) 1 0)
unfolding count sum
count-sum zero f = refl
count-sum (suc n) f = rw (count-sum n f)

pairs-sum : (n k : ℕ) (f : ℕ → ℕ → Bool) → count_pairs n k f ≡ sum n (λ x. count k (f x))
unfolding count_pairs sum
pairs-sum zero k f = refl
pairs-sum (suc n) k f = rw (pairs-sum n k f)

pub count_same : (n : ℕ) (f g : ℕ → Bool) → ((k : ℕ) → k < n → f k ≡ g k) → count n f ≡ count n g
count_same n f g h = count-sum n f ∙ sum_same n _ _ (λ k l. rw (h k l)) ∙ sym (count-sum n g)

pub pairs-same : (n k : ℕ) (f g : ℕ → ℕ → Bool) → ((x y : ℕ) → x < n → y < k → f x y ≡ g x y) → count_pairs n k f ≡ count_pairs n k g
pairs-same n k f g h = pairs-sum n k f ∙ sum_same n _ _ (λ x l. count_same k (f x) (g x) (λ y m. h x y l m)) ∙ sym (pairs-sum n k g)

-- a sum whose terms are 0 where p does not pass
sum-select : (n : ℕ) (p : ℕ → Bool) (f : ℕ → ℕ) → ((x : ℕ) → p x ≡ false → f x ≡ 0) → sum n f ≡ sum (length (select n p)) (λ i. f (get_or (select n p) i 0))
unfolding sum select
sum-select zero p f z = refl
sum-select (suc n) p f z = go (truth (p n)) (sum-select n p f z)
  where
    go : (p n ≡ true) ⊎ (p n ≡ false) → sum n f ≡ sum (length (select n p)) (λ i. f (get_or (select n p) i 0))
        → sum n f + f n ≡ (let l = cond (p n) (select n p ++ (n ∷ [])) (select n p) in sum (length l) (λ i. f (get_or l i 0)))
    go (inl t) e =
        let long : length (select n p ++ (n ∷ [])) ≡ suc (length (select n p)) = omega (arith, length-append (select n p) (n ∷ [])) in
        let before = sum_same (length (select n p)) (λ i. f (get_or (select n p ++ (n ∷ [])) i 0)) (λ i. f (get_or (select n p) i 0))
        (λ i l. ap f (append-off (select n p) n i (λ q. omega arith))) in
        rw (t, long, sum, append_at (select n p) n, before, e)
    go (inr t) e = rw (t, z n t) (omega arith)

pub count-select : (n : ℕ) (p f : ℕ → Bool) → ((x : ℕ) → f x ≡ true → p x ≡ true) → count n f ≡ count (length (select n p)) (λ i. f (get_or (select n p) i 0))
count-select n p f h =
    count-sum n f ∙ sum-select n p (λ x. cond (f x) 1 0) (λ x e. rw (false-if {b = f x} (λ t. clash (h x t) e))) ∙ sym (count-sum (length (select n p)) _)

pub pairs-select : (n : ℕ) (p : ℕ → Bool) (f : ℕ → ℕ → Bool) → ((x y : ℕ) → f x y ≡ true → (p x ≡ true) × (p y ≡ true))
    → count_pairs n n f ≡ count_pairs (length (select n p)) (length (select n p)) (λ b c. f (get_or (select n p) b 0) (get_or (select n p) c 0))
pairs-select n p f h =
    pairs-sum n n f
    ∙ sum-select n p (λ x. count n (f x)) (λ x e. count_none n (f x) (λ y l. false-if (λ t. clash (h x y t).0 e)))
    ∙ sum_same (length (select n p)) _ _ (λ i l. count-select n p (f (get_or (select n p) i 0)) (λ y t. (h _ y t).1))
    ∙ sym (pairs-sum (length (select n p)) (length (select n p)) _)
