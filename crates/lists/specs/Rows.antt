-- Rows one after the other as one list, each of its own length; a table, where all are of one length. Where an entry stands, and how a buffer is
-- filled row by row.
-- Assumes nothing.
use Rattle.std.specs.Prelude.{◌≡◌, List, [], ◌++◌, length, take, drop}
use Rattle.std.proofs.Math.Path.{refl, sym}
use Rattle.std.proofs.Common.{◌∙◌, append_assoc, suc-mul, zero-mul, mul-le-mul_left, mul-le-mul_right, le_trans, length-take, get_or-append-add}
use Prim.Native.Nat.{ℕ, zero, suc, ◌+◌, ◌*◌, ◌-◌, ◌≤◌, ◌<◌}
use native.Mathlib.Omega.{arith}
use Rattle.std.proofs.Math.Numerals.{add-one}
use Rattle.std.proofs.Math.Decide.{dec_lt}
use Rattle.std.proofs.Math.ListN.{get_or, length-append, length-drop, get_or-append}
use Rattle.std.proofs.Math.Seq.{drop-drop, drop_at, take_at}
use Rattle.lists.specs.Tab.{tab, tab-at, tab-length}

-- The place at which row k starts, after rows of these lengths.
unfoldable pub start_of : (ℕ → ℕ) → ℕ → ℕ
start_of n zero = 0
start_of n (suc k) = start_of n k + n k

-- k rows of their own lengths: row a is f a 0, f a 1, .. up to n a.
unfoldable pub rows_by : (ℕ → ℕ) → (ℕ → ℕ → ℕ) → ℕ → List ℕ
rows_by n f zero = []
rows_by n f (suc k) = rows_by n f k ++ tab (n k) (f k)

-- k rows of n entries.
unfoldable pub rows_of : (ℕ → ℕ → ℕ) → ℕ → ℕ → List ℕ
rows_of f n k = rows_by (λ a. n) f k

pub start-next : (n : ℕ → ℕ) (k : ℕ) → start_of n (k + 1) ≡ start_of n k + n k
unfolding start_of
start-next n k = rw (add-one k)

-- row a is over where row k starts
pub start_fits : (n : ℕ → ℕ) (k a : ℕ) → a < k → start_of n a + n a ≤ start_of n k
unfolding start_of
start_fits n zero a l = absurd (omega arith)
start_fits n (suc k) a l = go (dec_lt a k) (start_fits n k a)
  where
    go : Dec (a < k) → (a < k → start_of n a + n a ≤ start_of n k) → start_of n a + n a ≤ start_of n k + n k
    go (yes h) before = omega (arith, before h)
    go (no h) before = let q : a ≡ k = omega arith in rw q (omega arith)

-- each place is that of an entry
pub entry_at : (n : ℕ → ℕ) (k j : ℕ) → j < start_of n k → (a : ℕ) × ((b : ℕ) × ((a < k) × (b < n a) × (start_of n a + b ≡ j)))
unfolding start_of
entry_at n zero j l = absurd (omega arith)
entry_at n (suc k) j l = go (dec_lt j (start_of n k)) (entry_at n k j)
  where
    go : Dec (j < start_of n k) → (j < start_of n k → (a : ℕ) × ((b : ℕ) × ((a < k) × (b < n a) × (start_of n a + b ≡ j))))
        → (a : ℕ) × ((b : ℕ) × ((a < suc k) × (b < n a) × (start_of n a + b ≡ j)))
    go (yes h) before = let (a, (b, (p, q, e))) = before h in (a, (b, (omega arith, q, e)))
    go (no h) before = (k, (j - start_of n k, (omega arith, omega arith, omega arith)))

module _ (n : ℕ → ℕ) (f : ℕ → ℕ → ℕ) where
  pub rows-by-length : (k : ℕ) → length (rows_by n f k) ≡ start_of n k
  unfolding rows_by start_of
  rows-by-length zero = refl
  rows-by-length (suc k) = omega (arith, length-append (rows_by n f k) (tab (n k) (f k)), rows-by-length k, tab-length (n k) (f k))

  -- entry b of row a is f a b
  pub rows-by-at : (k a b : ℕ) → a < k → b < n a → get_or (rows_by n f k) (start_of n a + b) 0 ≡ f a b
  unfolding rows_by
  rows-by-at zero a b l m = absurd (omega arith)
  rows-by-at (suc k) a b l m = go (dec_lt a k) (rows-by-at k a b)
    where
      go : Dec (a < k) → (a < k → b < n a → get_or (rows_by n f k) (start_of n a + b) 0 ≡ f a b)
          → get_or (rows_by n f k ++ tab (n k) (f k)) (start_of n a + b) 0 ≡ f a b
      go (yes h) before =
          get_or-append (rows_by n f k) (tab (n k) (f k)) 0 (start_of n a + b) (omega (arith, rows-by-length k, start_fits n k a h)) ∙ before h m
      go (no h) before =
          let q : a ≡ k = omega arith in
          let e : b < n k = rw q at m in
          rw (q, ← rows-by-length k) (get_or-append-add (rows_by n f k) (tab (n k) (f k)) b 0 ∙ tab-at (n k) (f k) 0 b e)

  -- the buffer after k rows
  pub filled : ℕ → List ℕ → List ℕ
  filled k old = rows_by n f k ++ drop (start_of n k) old

  pub filled_none : (old : List ℕ) → old ≡ filled 0 old
  unfolding filled rows_by start_of
  filled_none old = refl

  pub filled-length : (k : ℕ) (old : List ℕ) → start_of n k ≤ length old → length (filled k old) ≡ length old
  unfolding filled
  filled-length k old h = omega (arith, length-append (rows_by n f k) (drop (start_of n k) old), rows-by-length k, length-drop (start_of n k) old)

  -- row k was lent from s to e, filled, and is back
  pub filled_more : (k s e : ℕ) (old out part : List ℕ) → s ≡ start_of n k → e ≡ s + n k → out ≡ filled k old → part ≡ tab (n k) (f k)
      → take s out ++ (part ++ drop (e - s) (drop s out)) ≡ filled (k + 1) old
  unfolding filled rows_by start_of
  filled_more k s e old out part p q o r =
      let size : e - s ≡ n k = omega arith in
      let done = rows-by-length k in
      rw (size, p, o, r, take_at (rows_by n f k) (drop (start_of n k) old) (start_of n k) done, drop_at (rows_by n f k) (drop (start_of n k) old) (start_of n k) done, drop-drop (n k) (start_of n k) old, add-one k)
      (sym (append_assoc (rows_by n f k) (tab (n k) (f k)) (drop (start_of n k + n k) old)))

  pub filled-all : (k : ℕ) (old : List ℕ) → filled k old ≡ rows_by n f k ++ drop (length (rows_by n f k)) old
  unfolding filled
  filled-all k old = rw (rows-by-length k)

-- rows of one length

pub square : {k m : ℕ} → k ≤ m → k * k ≤ m * m
square {k} {m} l = le_trans (mul-le-mul_left k l) (mul-le-mul_right m l)

-- a row after k others has room in a table of n
pub row_room : (k n : ℕ) → k < n → k * n + n ≤ n * n
row_room k n h = omega (arith, mul-le-mul_right {m = suc k} {n = n} n h, suc-mul k n)

pub row-end : (k n : ℕ) → (k + 1) * n ≡ k * n + n
row-end k n = rw (add-one k) (suc-mul k n)

even-start : (n k : ℕ) → start_of (λ a. n) k ≡ k * n
unfolding start_of
even-start n zero = sym (zero-mul n)
even-start n (suc k) = omega (arith, even-start n k, suc-mul k n)

module _ (f : ℕ → ℕ → ℕ) (n : ℕ) where
  pub rows-length : (k : ℕ) → length (rows_of f n k) ≡ k * n
  unfolding rows_of
  rows-length k = rows-by-length (λ a. n) f k ∙ even-start n k

  -- entry a * n + b is f a b
  pub rows_at : (k a b : ℕ) → a < k → b < n → get_or (rows_of f n k) (a * n + b) 0 ≡ f a b
  unfolding rows_of
  rows_at k a b l m = rw (even-start n a) at (rows-by-at (λ a. n) f k a b l m)

  -- the buffer after k rows
  pub after : ℕ → List ℕ → List ℕ
  after k old = filled (λ a. n) f k old

  pub after_none : (old : List ℕ) → old ≡ after 0 old
  unfolding after
  after_none old = filled_none (λ a. n) f old

  pub after-length : (k : ℕ) (old : List ℕ) → k * n ≤ length old → length (after k old) ≡ length old
  unfolding after
  after-length k old h = filled-length (λ a. n) f k old (omega (arith, even-start n k))

  -- row k was lent from s to e, filled, and is back
  pub after_more : (k s e : ℕ) (old out part : List ℕ) → s ≡ k * n → e ≡ s + n → out ≡ after k old → part ≡ tab n (f k)
      → take s out ++ (part ++ drop (e - s) (drop s out)) ≡ after (k + 1) old
  unfolding after
  after_more k s e old out part p q o r = filled_more (λ a. n) f k s e old out part (p ∙ sym (even-start n k)) q o r

  pub after-all : (k : ℕ) (old : List ℕ) → after k old ≡ rows_of f n k ++ drop (length (rows_of f n k)) old
  unfolding after rows_of
  after-all k old = filled-all (λ a. n) f k old

-- the part that is lent for a row is as long as a row
pub part_length : (n s e : ℕ) (out : List ℕ) → e ≡ s + n → e ≤ length out → length (take (e - s) (drop s out)) ≡ n
part_length n s e out q h = omega (arith, length-take (e - s) (drop s out), length-drop s out)
