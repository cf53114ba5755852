-- What the replay leaves, as records and as a sheet.
-- Assumes nothing.
use mathlib.Core.Path.{◌≡◌, sym, ◌∙◌, ap}
use mathlib.Core.Bool.{Bool, cond}
use mathlib.Core.List.{List, [], ◌++◌}
use Prim.Native.Nat.{ℕ, zero, suc, ◌+◌, ◌-◌, ◌*◌, ◌≤◌, ◌<◌}
use native.Mathlib.Omega.{arith}
use native.Mathlib.Decide.{dec_lt, ℕ_discrete}
use native.Mathlib.Nat.{zero-mul, suc-mul}
use lib.ListN.{length, get_or, set, drop}
use lib.Seq.{ext_get_or, get_or-set_same, get_or-set_other}
use Rattle.lists.specs.Front.{front_length, front_at, front-past}
use Rattle.lists.specs.Rows.{rows_of, rows-length, rows_at}
use Rattle.lists.specs.Tab.{tab, tab-at, tab-length}
use Rattle.theory_traces.specs.Call.{met_sheet}
use Rattle.theory_traces.specs.declared.Thread.{Thread}
use Rattle.call_replay.specs.PairsMet.{Sheet, Kept}

-- a list whose entries are known
pub tab-is : {A : Type 0} (d : A) (n : ℕ) (f : ℕ → A) (l : List A) → length l ≡ n → ((j : ℕ) → j < n → get_or l j d ≡ f j) → l ≡ tab n f
tab-is d n f l h e = ext_get_or d l (tab n f) (h ∙ sym (tab-length n f)) (λ j k. e j (omega (arith, h)) ∙ sym (tab-at n f d j (omega (arith, h))))

-- the place of an entry
abbrev Place : ℕ → ℕ → ℕ → Type 0
Place k n j = (a : ℕ) × (b : ℕ) × (a < k) × (b < n) × (j ≡ a * n + b)

row_of : (k n j : ℕ) → j < k * n → Place k n j
row_of zero n j l = absurd (omega (arith, zero-mul n))
row_of (suc k) n j l = go (dec_lt j n) (λ h. row_of k n (j - n) h)
  where
    go : Dec (j < n) → (j - n < k * n → Place k n (j - n)) → Place (suc k) n j
    go (yes h) before = (0, j, omega arith, h, omega (arith, zero-mul n))
    go (no h) before = let (a, b, x, y, q) = before (omega (arith, suc-mul k n)) in (suc a, b, omega arith, y, omega (arith, suc-mul a n))

pub sheet-content : {n k : ℕ} {met : ℕ → ℕ → Bool} {old new : List ℕ} → n ≡ k → k * k ≤ length old → Kept (k * n) old new → Sheet n (record { first = 0; count = k }) met new
    → new ≡ met_sheet n met ++ drop (length (met_sheet n met)) old
unfolding met_sheet
sheet-content {n} {k} {met} {old} {new} same room K S =
    let f : ℕ → ℕ → ℕ = λ a b. cond (met a b) 1 0 in
    let long = rows-length f n n in
    ext_get_or 0 new (rows_of f n n ++ drop (length (rows_of f n n)) old) (K.long ∙ sym (front_length (rows_of f n n) old (rw long (rw (← same) at room)))) (λ j l. go j (dec_lt j (n * n)))
  where
    go : (j : ℕ) → Dec (j < n * n)
        → get_or new j 0 ≡ get_or (rows_of (λ a b. cond (met a b) 1 0) n n ++ drop (length (rows_of (λ a b. cond (met a b) 1 0) n n)) old) j 0
    go j (yes l) =
        let f : ℕ → ℕ → ℕ = λ a b. cond (met a b) 1 0 in
        let (a, b, la, lb, q) = row_of n n j l in
        let z : 0 + a ≡ a = omega arith in
        rw q (S.at a b (omega arith) lb ∙ ap (λ (x : ℕ). f x b) z ∙ sym (front_at (rows_of f n n) old (a * n + b) (omega (arith, rows-length f n n)) ∙ rows_at f n n a b la lb))
    go j (no l) =
        let f : ℕ → ℕ → ℕ = λ a b. cond (met a b) 1 0 in
        K.past j (rw (← same) (omega arith)) ∙ sym (front-past (rows_of f n n) old j (omega (arith, rows-length f n n)))

pub content-length : (n : ℕ) (met : ℕ → ℕ → Bool) (old : List ℕ) → n * n ≤ length old → length (met_sheet n met ++ drop (length (met_sheet n met)) old) ≡ length old
unfolding met_sheet
content-length n met old room = front_length (rows_of (λ a b. cond (met a b) 1 0) n n) old (omega (arith, rows-length (λ a b. cond (met a b) 1 0) n n))
