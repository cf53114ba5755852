-- How the buffer fills up, row by row.
-- Assumes nothing.
use mathlib.Core.Path.{◌≡◌, ap}
use mathlib.Core.List.{List, ◌++◌}
use Prim.Native.Nat.{ℕ, ◌+◌, ◌*◌, ◌-◌, ◌≤◌, ◌<◌}
use native.Mathlib.Omega.{arith}
use native.Mathlib.Nat.{mul-le-mul_left, mul-le-mul_right, le_trans}
use lib.ListN.{length, take, drop, length-append, length-take, length-drop}
use Rattle.lists.specs.Tab.{tab, tab-length}
use Rattle.lists.specs.Rows.{start_of, start_fits}
use Rattle.lists.specs.Triangle.{pairs_from, pair_count, pairs-all}

-- the pairs of a list are not too many for a number of 64 bits
pub few-pairs : (n : ℕ) → n ≤ 1024 → n * (n + 1) ≤ 1049600
few-pairs n l = let h : n + 1 ≤ 1025 = omega arith in le_trans (mul-le-mul_left n h) (mul-le-mul_right 1025 l)

-- row i ends within the pairs
pub row_fits : (n i : ℕ) → i < n → start_of (pairs_from n) i + pairs_from n i ≤ pair_count n
row_fits n i l = omega (arith, start_fits (pairs_from n) n i l, pairs-all n)

-- A list is as long as this.
pub record Long (n : ℕ) (list : List ℕ) : Type 0 where
  pub is-long : length list ≡ n

-- a part that comes back as long as it was leaves the buffer as long as it was
pub lent-long : (s e : ℕ) (out : List ℕ) (f : ℕ → ℕ) {part : List ℕ} {n : ℕ} → s ≤ e → e ≤ length out
    → part ≡ tab (length (take (e - s) (drop s out))) f → Long n out
    → Long n (take s out ++ (part ++ drop (e - s) (drop s out)))
lent-long s e out f {part} l m q h = record {
  is-long = omega (
    arith,
    h.is-long,
    ap length q,
    tab-length (length (take (e - s) (drop s out))) f,
    length-take (e - s) (drop s out),
    length-append (take s out) (part ++ drop (e - s) (drop s out)),
    length-append part (drop (e - s) (drop s out)),
    length-take s out,
    length-drop s out,
    length-drop (e - s) (drop s out),
  );
}
