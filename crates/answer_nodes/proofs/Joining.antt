-- The masks past the last node, three words by one law, and rows that are stored one by one.
-- Assumes nothing.
use mathlib.Core.Path.{◌≡◌, refl, subst}
use mathlib.Core.List.{List, []}
use Prim.Native.Nat.{ℕ, zero, suc, ◌+◌, ◌*◌, ◌-◌, ◌<◌}
use native.Mathlib.Omega.{arith}
use native.Mathlib.Decide.{ℕ_discrete, dec_lt}
use lib.ListN.{length, get_or, set, replicate}
use lib.Seq.{get_or-set_same, get_or-set_other}
use Rattle.chart.specs.Region.{Region}
use Rattle.answer_constructs.specs.declared.mask_table.MaskTable.{MaskTable}
use Rattle.answer_constructs.specs.Marks.{Marks}
use Rattle.answer_constructs.proofs.Past.{starts-past, ends-past, held-past}
use Rattle.answer_nodes.specs.Gathered.{RowsPast}

-- no row has a bit past the last node
pub rows-past : {R : Region} {marks : MaskTable} {kinds : List ℕ} → Marks R marks kinds → {n : ℕ} → R.nodes ≡ n → RowsPast n marks
rows-past M q = record { starts = starts-past M q; ends = ends-past M q; held = held-past M q }

-- three times 64 entries
pub three-words : (P : ℕ → Type 0) → ((j : ℕ) → j < 64 → P (64 * 0 + j)) → ((j : ℕ) → j < 64 → P (64 * 1 + j)) → ((j : ℕ) → j < 64 → P (64 * 2 + j))
    → (j : ℕ) → j < 192 → P j
three-words P low middle high j l = go (dec_lt j 64) (dec_lt j 128)
  where
    go : Dec (j < 64) → Dec (j < 128) → P j
    go (yes h) d = let q : 64 * 0 + j ≡ j = omega arith in subst P q (low j h)
    go (no h) (yes d) = let q : 64 * 1 + (j - 64) ≡ j = omega arith in subst P q (middle (j - 64) (omega arith))
    go (no h) (no d) = let q : 64 * 2 + (j - 128) ≡ j = omega arith in subst P q (high (j - 128) (omega arith))

-- rows that are all the same
pub in-each : {v : List ℕ} (n j : ℕ) → j < n → get_or (replicate n v) j [] ≡ v
in-each zero j l = absurd (omega arith)
in-each (suc n) zero l = refl
in-each (suc n) (suc j) l = in-each n j (omega arith)

-- the turn of a loop that stores a row once at each index
pub stored_row : (P : ℕ → List ℕ → Type 0) (l : List (List ℕ)) (i : ℕ) (v : List ℕ) → i < length l → P i v → ((j : ℕ) → j < i → P j (get_or l j []))
    → (j : ℕ) → j < i + 1 → P j (get_or (set l i v) j [])
stored_row P l i v b p old j h = go (ℕ_discrete j i)
  where
    go : Dec (j ≡ i) → P j (get_or (set l i v) j [])
    go (yes e) = rw (e, get_or-set_same l i v [] b) p
    go (no d) = rw (get_or-set_other l i j v [] d) (old j (omega arith))
