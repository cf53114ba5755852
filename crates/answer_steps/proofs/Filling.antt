-- A column that is filled from its top.
-- Assumes nothing.
use mathlib.Core.Path.{◌≡◌, refl, ◌∙◌, ap}
use mathlib.Core.Logic.{◌⊎◌, inl, inr}
use mathlib.Core.List.{List}
use Prim.Native.Nat.{ℕ, ◌+◌, ◌≤◌, ◌<◌}
use native.Mathlib.Omega.{arith}
use native.Mathlib.Decide.{ℕ_discrete}
use lib.ListN.{length, get_or, set, length-set}
use lib.Seq.{get_or-set_same, get_or-set_other}
use Rattle.lists.specs.Store.{at_set}
use Rattle.answer_steps.specs.Words.{Column, Beside}

pub column-none : (a : ℕ) (f : ℕ → ℕ) (old : List ℕ) → Column a 0 f old old
column-none a f old = record { long = refl; at = λ j l. absurd (omega arith); rest = λ j h. refl }

pub column-more : {a i : ℕ} {f : ℕ → ℕ} {old new : List ℕ} (v : ℕ) → a + i < length old → v ≡ f i → Column a i f old new → Column a (i + 1) f old (set new (a + i) v)
column-more {a} {i} {f} {old} {new} v b e C =
    let inside : a + i < length new = omega (arith, C.long) in
    record {
      long = length-set new (a + i) v ∙ C.long;
      at = λ j l. at_set (λ n. n ≡ f j) new (a + i) v (a + j) inside (λ q. let d : i ≡ j = omega arith in e ∙ ap f d) (λ d. C.at j (before j l d));
      rest = λ j h. get_or-set_other new (a + i) j v 0 (outer j h) ∙ C.rest j (wider j h);
    }
  where
    before : (j : ℕ) → j < i + 1 → (a + j ≡ a + i → ⊥) → j < i
    before j l d = elim (ℕ_discrete j i) [ yes e ↦ absurd (d (ap (λ (k : ℕ). a + k) e)) | no e ↦ omega arith ]

    outer : (j : ℕ) → (j < a) ⊎ (a + (i + 1) ≤ j) → j ≡ a + i → ⊥
    outer j (inl l) q = omega arith
    outer j (inr l) q = omega arith

    wider : (j : ℕ) → (j < a) ⊎ (a + (i + 1) ≤ j) → (j < a) ⊎ (a + i ≤ j)
    wider j (inl l) = inl l
    wider j (inr l) = inr (omega arith)

-- one store more between two places
pub beside_none : (a b : ℕ) (old : List ℕ) → Beside a b old old
beside_none a b old = record { long = refl; rest = λ j h. refl }

pub beside-more : {a b : ℕ} {old new : List ℕ} (i v : ℕ) → a ≤ i → i < b → Beside a b old new → Beside a b old (set new i v)
beside-more {a} {b} {old} {new} i v l h B = record { long = length-set new i v ∙ B.long; rest = λ j g. get_or-set_other new i j v 0 (apart j g) ∙ B.rest j g }
  where
    apart : (j : ℕ) → (j < a) ⊎ (b ≤ j) → j ≡ i → ⊥
    apart j (inl g) q = omega arith
    apart j (inr g) q = omega arith

-- five stores, one after the other
pub five-stores : (t : List ℕ) (m k a b n : ℕ) → length t ≡ 2133
    → let t5 = set (set (set (set (set t 2032 m) 2033 k) 2034 a) 2035 b) 2036 n in
    ((get_or t5 2032 0 ≡ m) × (get_or t5 2033 0 ≡ k) × (get_or t5 2036 0 ≡ n)) × (((get_or t5 2034 0 ≡ a) × (get_or t5 2035 0 ≡ b)) × Beside 2032 2037 t t5)
five-stores t m k a b n l =
    let t1 = set t 2032 m in
    let t2 = set t1 2033 k in
    let t3 = set t2 2034 a in
    let t4 = set t3 2035 b in
    let l1 = length-set t 2032 m ∙ l in
    let l2 = length-set t1 2033 k ∙ l1 in
    let l3 = length-set t2 2034 a ∙ l2 in
    let l4 = length-set t3 2035 b ∙ l3 in (
      (
        get_or-set_other t4 2036 2032 n 0 (λ e. omega arith) ∙ get_or-set_other t3 2035 2032 b 0 (λ e. omega arith) ∙ get_or-set_other t2 2034 2032 a 0 (λ e. omega arith) ∙ get_or-set_other t1 2033 2032 k 0 (λ e. omega arith) ∙ get_or-set_same t 2032 m 0 (omega arith),
        get_or-set_other t4 2036 2033 n 0 (λ e. omega arith) ∙ get_or-set_other t3 2035 2033 b 0 (λ e. omega arith) ∙ get_or-set_other t2 2034 2033 a 0 (λ e. omega arith) ∙ get_or-set_same t1 2033 k 0 (omega (arith, l1)),
        get_or-set_same t4 2036 n 0 (omega (arith, l4)),
      ),
      (
        (get_or-set_other t4 2036 2034 n 0 (λ e. omega arith) ∙ get_or-set_other t3 2035 2034 b 0 (λ e. omega arith) ∙ get_or-set_same t2 2034 a 0 (omega (arith, l2)), get_or-set_other t4 2036 2035 n 0 (λ e. omega arith) ∙ get_or-set_same t3 2035 b 0 (omega (arith, l3))),
        beside-more 2036 n (omega arith) (omega arith) (beside-more 2035 b (omega arith) (omega arith) (beside-more 2034 a (omega arith) (omega arith)
            (beside-more 2033 k (omega arith) (omega arith) (beside-more 2032 m (omega arith) (omega arith) (beside_none 2032 2037 t))))),
      ),
    )
