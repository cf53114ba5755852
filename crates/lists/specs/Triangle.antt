-- The pairs of numbers below n, each number with itself and with those above it, by the first and then by the second: row i has n - i of
-- them. How many there are, and where each stands.
-- Assumes nothing.
use Rattle.std.specs.Prelude.{◌≡◌, refl, ℕ, zero, suc, ◌+◌, ◌*◌, ◌/◌, ◌-◌, ◌≤◌, ◌<◌}
use Rattle.std.proofs.Common.{ap, sym, ◌∙◌, arith, suc-mul, mul-suc, zero-add, add-one}
use Rattle.lists.specs.Rows.{start_of, start_fits, entry_at}

-- the length of row i
abbrev pub pairs_from : ℕ → ℕ → ℕ
pairs_from n i = n - i

unfoldable pub pair_count : ℕ → ℕ
pair_count n = n * (n + 1) / 2

unfoldable pub pair_place : ℕ → ℕ → ℕ → ℕ
pair_place n i j = start_of (pairs_from n) i + (j - i)

-- 1 + 2 + .. + n
unfoldable sum : ℕ → ℕ
sum zero = 0
sum (suc n) = sum n + suc n

sum-next : (m n : ℕ) → m ≡ suc n → sum m ≡ sum n + m
unfolding sum
sum-next m n e = rw e refl

twice : (n : ℕ) → 2 * sum n ≡ n * (n + 1)
unfolding sum
twice zero = refl
twice (suc n) =
    let a : suc n * (suc n + 1) ≡ n * (suc n + 1) + (suc n + 1) = suc-mul n (suc n + 1) in
    let b : n * (suc n + 1) ≡ n * (n + 1) + n = ap (λ (k : ℕ). n * k) (add-one (suc n)) ∙ mul-suc n (suc n) ∙ ap (λ (k : ℕ). n * k + n) (sym (add-one n)) in
    omega (arith, twice n, a, b)

-- rows are taken off from the longest on
rest : (n k : ℕ) → k ≤ n → start_of (pairs_from n) k + sum (n - k) ≡ sum n
unfolding start_of
rest n zero l = let q : n - 0 ≡ n = omega arith in rw (q, zero-add)
rest n (suc k) l = omega (arith, rest n k (omega arith), sum-next (n - k) (n - suc k) (omega arith))

pub pairs-all : (n : ℕ) → start_of (pairs_from n) n ≡ pair_count n
unfolding pair_count sum
pairs-all n =
    let q : n - n ≡ 0 = omega arith in
    let none : sum (n - n) ≡ 0 = rw q refl in
    omega (arith, rest n n (omega arith), none, twice n)

-- the pair of i and j stands in row i, and each place is that of a pair
pub place-below : (n i j : ℕ) → i ≤ j → j < n → pair_place n i j < pair_count n
unfolding pair_place
place-below n i j l m = omega (arith, start_fits (pairs_from n) n i (omega arith), pairs-all n)

pub pair-at : (n k : ℕ) → k < pair_count n → (i : ℕ) × ((j : ℕ) × ((i ≤ j) × (j < n) × (pair_place n i j ≡ k)))
unfolding pair_place
pair-at n k l =
    let (i, (b, (p, q, e))) = entry_at (pairs_from n) n k (omega (arith, pairs-all n)) in
    let z : i + b - i ≡ b = omega arith in
    (i, (i + b, (omega arith, omega arith, rw z e)))
