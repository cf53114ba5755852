-- A table of 192 numbers that is written from its front.
-- Assumes nothing.
use mathlib.Core.Path.{◌≡◌, refl}
use mathlib.Core.List.{List}
use Prim.Native.Nat.{ℕ, ◌+◌, ◌≤◌, ◌<◌}
use native.Mathlib.Omega.{arith}
use lib.ListN.{length, get_or, set, length-set}
use Rattle.lists.specs.Store.{at_set}
use Rattle.search.specs.Levels.{Each}

-- The first j of the numbers are written.
pub record Writing (T : ℕ → ℕ → Type 0) (s : List ℕ) (j : ℕ) (old t : List ℕ) : Type 0 where
  pub long : length t ≡ 192
  pub done : (y : ℕ) → y < j → T (get_or s y 0) (get_or t y 0)
  pub rest : (y : ℕ) → j ≤ y → get_or t y 0 ≡ get_or old y 0

pub writing-none : {T : ℕ → ℕ → Type 0} {s old : List ℕ} → length old ≡ 192 → Writing T s 0 old old
writing-none l = record { long = l; done = λ y h. absurd (omega arith); rest = λ y h. refl }

pub writing_more : {T : ℕ → ℕ → Type 0} {s old t : List ℕ} {j : ℕ} (v : ℕ) → j < 192 → T (get_or s j 0) v → Writing T s j old t
    → Writing T s (j + 1) old (set t j v)
writing_more {T} {s} {old} {t} {j} v l r i =
    let js : j < length t = omega (arith, i.long) in
    record {
      long = simp length-set i.long;
      done = λ y h. at_set (λ m. T (get_or s y 0) m) t j v y js (λ e. rw e r) (λ n. i.done y (omega arith));
      rest = λ y h. at_set (λ m. m ≡ get_or old y 0) t j v y js (λ e. absurd (omega arith)) (λ n. i.rest y (omega arith));
    }

pub writing-all : {T : ℕ → ℕ → Type 0} {s old t : List ℕ} {j : ℕ} → 192 ≤ j → Writing T s j old t → Each T s t
writing-all l i = record { long = i.long; at = λ y h. i.done y (omega arith) }
