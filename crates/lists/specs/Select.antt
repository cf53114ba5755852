-- The numbers below a bound that pass a test, as a list, rising; so each has its number in the list, how many before it pass.
-- Assumes nothing.
use Rattle.std.specs.Prelude.{◌≡◌, refl, ◌⊎◌, Bool, true, false, cond, List, [], ◌∷◌, ◌++◌, ℕ, zero, suc, ◌+◌, ◌<◌, length, get_or}
use Rattle.std.proofs.Common.{ap, inl, inr, arith, add-one, length-append}
use Rattle.std.proofs.Math.Decide.{ℕ_discrete}
use Rattle.lists.specs.Truth.{truth, clash}
use Rattle.lists.specs.Range.{count}

unfoldable pub select : ℕ → (ℕ → Bool) → List ℕ
select zero f = []
select (suc n) f = cond (f n) (select n f ++ (n ∷ [])) (select n f)

-- the turn of a loop that selects
pub select-hit : (f : ℕ → Bool) (n : ℕ) → f n ≡ true → select (n + 1) f ≡ select n f ++ (n ∷ [])
unfolding select
select-hit f n h = rw (add-one n, select, h)

pub select-miss : (f : ℕ → Bool) (n : ℕ) → f n ≡ false → select (n + 1) f ≡ select n f
unfolding select
select-miss f n h = rw (add-one n, select, h)

pub select-length : (n : ℕ) (f : ℕ → Bool) → length (select n f) ≡ count n f
unfolding select count
select-length zero f = refl
select-length (suc n) f = go (truth (f n)) (select-length n f)
  where
    go : (f n ≡ true) ⊎ (f n ≡ false) → length (select n f) ≡ count n f
        → length (cond (f n) (select n f ++ (n ∷ [])) (select n f)) ≡ count n f + cond (f n) 1 0
    go (inl h) e = rw (h, length-append (select n f) (n ∷ [])) (omega arith)
    go (inr h) e = rw h (omega arith)

-- one element more at the end of a list
pub append_at : (l : List ℕ) (v : ℕ) → get_or (l ++ (v ∷ [])) (length l) 0 ≡ v
append_at [] v = refl
append_at (x ∷ l) v = append_at l v

pub append-off : (l : List ℕ) (v k : ℕ) → (k ≡ length l → ⊥) → get_or (l ++ (v ∷ [])) k 0 ≡ get_or l k 0
append-off [] v zero n = absurd (n refl)
append-off [] v (suc k) n = refl
append-off (x ∷ l) v zero n = refl
append-off (x ∷ l) v (suc k) n = append-off l v k (λ e. n (ap suc e))

-- whatever is in the list passes
abbrev Passes : (ℕ → Bool) → ℕ → ℕ → Type 0
Passes f n x = (x < n) × (f x ≡ true)

pub select-passes : (n : ℕ) (f : ℕ → Bool) (k : ℕ) → k < length (select n f) → Passes f n (get_or (select n f) k 0)
unfolding select
select-passes zero f k l = absurd (omega arith)
select-passes (suc n) f k l = go (truth (f n)) (ℕ_discrete k (length (select n f))) (λ l. select-passes n f k l)
  where
    last : k < length (select n f ++ (n ∷ [])) → (k ≡ length (select n f) → ⊥) → k < length (select n f)
    last b d = omega (arith, length-append (select n f) (n ∷ []))

    more : Passes f n (get_or (select n f) k 0) → Passes f (suc n) (get_or (select n f) k 0)
    more r = (omega (arith, r.0), r.1)

    go : (f n ≡ true) ⊎ (f n ≡ false) → Dec (k ≡ length (select n f)) → (k < length (select n f) → Passes f n (get_or (select n f) k 0))
        → Passes f (suc n) (get_or (cond (f n) (select n f ++ (n ∷ [])) (select n f)) k 0)
    go (inl h) (yes e) r = rw (h, e, append_at (select n f) n) (omega arith, h)
    go (inl h) (no d) r = rw (h, append-off (select n f) n k d) (more (r (last (rw h at l) d)))
    go (inr h) d r = rw h (more (r (rw h at l)))

-- and whatever passes is in the list, at its number
pub select-at : (n : ℕ) (f : ℕ → Bool) (x : ℕ) → x < n → f x ≡ true → (count x f < length (select n f)) × (get_or (select n f) (count x f) 0 ≡ x)
unfolding select
select-at zero f x l h = absurd (omega arith)
select-at (suc n) f x l h = go (truth (f n)) (ℕ_discrete x n) (λ l. select-at n f x l h)
  where
    go : (f n ≡ true) ⊎ (f n ≡ false) → Dec (x ≡ n) → (x < n → (count x f < length (select n f)) × (get_or (select n f) (count x f) 0 ≡ x))
        → (let l = cond (f n) (select n f ++ (n ∷ [])) (select n f) in (count x f < length l) × (get_or l (count x f) 0 ≡ x))
    go (inl t) (yes e) r =
        let q = select-length n f in
        rw (t, e, ← q) (omega (arith, length-append (select n f) (n ∷ [])), append_at (select n f) n)
    go (inl t) (no d) r =
        let (b, e) = r (omega arith) in
        rw (t, append-off (select n f) n (count x f) (λ q. omega arith)) (omega (arith, length-append (select n f) (n ∷ [])), e)
    go (inr t) (yes e) r = absurd (clash h (rw (← e) at t))
    go (inr t) (no d) r = rw t (r (omega arith))

-- so the number of an element is its place
pub select-number : (n : ℕ) (f : ℕ → Bool) (k : ℕ) → k < length (select n f) → count (get_or (select n f) k 0) f ≡ k
unfolding select
select-number zero f k l = absurd (omega arith)
select-number (suc n) f k l = go (truth (f n)) (ℕ_discrete k (length (select n f))) (λ l. select-number n f k l)
  where
    go : (f n ≡ true) ⊎ (f n ≡ false) → Dec (k ≡ length (select n f)) → (k < length (select n f) → count (get_or (select n f) k 0) f ≡ k)
        → count (get_or (cond (f n) (select n f ++ (n ∷ [])) (select n f)) k 0) f ≡ k
    go (inl h) (yes e) r = rw (h, e, append_at (select n f) n, select-length n f)
    go (inl h) (no d) r = rw (h, append-off (select n f) n k d) (r (last (rw h at l) d))
      where
        last : k < length (select n f ++ (n ∷ [])) → (k ≡ length (select n f) → ⊥) → k < length (select n f)
        last b d = omega (arith, length-append (select n f) (n ∷ []))
    go (inr h) d r = rw h (r (rw h at l))
