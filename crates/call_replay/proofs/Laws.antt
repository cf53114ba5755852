-- What storing the records of a team leaves.
-- Assumes nothing.
use mathlib.Core.Path.{◌≡◌, refl, sym, ◌∙◌}
use mathlib.Core.List.{List}
use Prim.Native.Nat.{ℕ, zero, suc, ◌≤◌, ◌<◌}
use native.Mathlib.Omega.{arith}
use native.Mathlib.Decide.{ℕ_discrete}
use lib.ListN.{length, get_or, set, length-set}
use lib.Seq.{ext_get_or, get_or-set_same, get_or-set_other}
use Rattle.lists.specs.Tab.{tab, tab-at, tab-length}
use Rattle.theory_traces.specs.declared.Thread.{Thread}
use Rattle.call_replay.specs.Stored.{blank, stored}

pub stored-none : (xs ys : List Thread) → stored xs 0 ys ≡ ys
unfolding stored
stored-none xs ys = refl

pub stored_more : (xs : List Thread) (n : ℕ) (ys : List Thread) → stored xs (suc n) ys ≡ set (stored xs n ys) n (get_or xs n blank)
unfolding stored
stored_more xs n ys = refl

pub stored-length : (xs : List Thread) (n : ℕ) (ys : List Thread) → length (stored xs n ys) ≡ length ys
unfolding stored
stored-length xs zero ys = refl
stored-length xs (suc n) ys = length-set (stored xs n ys) n (get_or xs n blank) ∙ stored-length xs n ys

stored_at : (xs : List Thread) (n : ℕ) (ys : List Thread) → n ≤ length ys → (j : ℕ) → j < n → get_or (stored xs n ys) j blank ≡ get_or xs j blank
stored_at xs zero ys h j l = absurd (omega arith)
stored_at xs (suc n) ys h j l = go (λ k. stored_at xs n ys (omega arith) j k) (ℕ_discrete j n)
  where
    go : (j < n → get_or (stored xs n ys) j blank ≡ get_or xs j blank) → Dec (j ≡ n) → get_or (stored xs (suc n) ys) j blank ≡ get_or xs j blank
    go before (yes e) = rw (stored_more xs n ys, e) (get_or-set_same (stored xs n ys) n (get_or xs n blank) blank (omega (arith, stored-length xs n ys)))
    go before (no e) = rw (stored_more xs n ys) (get_or-set_other (stored xs n ys) n j (get_or xs n blank) blank e ∙ before (omega arith))

-- as many records as there are
pub stored-all : (f : ℕ → Thread) (ys : List Thread) → length ys ≤ 8 → stored (tab 8 f) (length ys) ys ≡ tab (length ys) f
stored-all f ys h =
    let m = length ys in
    ext_get_or blank (stored (tab 8 f) m ys) (tab m f) (stored-length (tab 8 f) m ys ∙ sym (tab-length m f))
    (λ j l.
    let small : j < m = omega (arith, stored-length (tab 8 f) m ys) in
    stored_at (tab 8 f) m ys (omega arith) j small ∙ tab-at 8 f blank j (omega arith) ∙ sym (tab-at m f blank j small))
