-- Bits of sets, as tests.
-- Assumes nothing.
use mathlib.Core.Path.{◌≡◌, refl, ap, ◌∙◌}
use mathlib.Core.Logic.{inl, inr}
use mathlib.Core.Bool.{Bool, true, false, ◌&&◌, ◌||◌, not, cond}
use Prim.Native.Nat.{ℕ, ◌/◌, ◌%◌, ◌^◌}
use native.Mathlib.Omega.{arith}
use native.Mathlib.Nat.{div-eq_of_lt}
use lib.Bits.{bit_and, bit_or, bit_xor, differ, xor_step, xor_shr}
use lib.Dec.{eqb}
use lib.Pow.{pow_pos}
use borrow.Author.Tests.{eqb-true, eq-eqb, eqb-false}
use Rattle.lists.specs.Truth.{truth, same_truth, and_both, both-and, or_cases as or-either, or_left as either_left, or_right as either-right}
use Rattle.lists.specs.Mask.{or_cases, or_left, or_right}
use Rattle.lists.specs.Bits.{has}
use Rattle.lists.specs.Common.{and_both as common-both, both-and as both-common}

-- the empty set has no bit
pub none_has : (j : ℕ) → 0 / 2 ^ j ≡ 0
none_has j = div-eq_of_lt (pow_pos j)

pub has-and : (a b j : ℕ) → has (bit_and a b) j ≡ (has a j && has b j)
has-and a b j = same_truth _ _ (λ h. let (p, q) = common-both a b j (eqb-true _ 1 h) in both-and _ _ (eq-eqb _ 1 p) (eq-eqb _ 1 q))
    (λ h. let (p, q) = and_both _ _ h in eq-eqb _ 1 (both-common a b j (eqb-true _ 1 p) (eqb-true _ 1 q)))

pub has-or : (a b j : ℕ) → has (bit_or a b) j ≡ (has a j || has b j)
has-or a b j = same_truth _ _
    (λ h. elim (or_cases a b j (eqb-true _ 1 h)) [ inl p ↦ either_left (has a j) (has b j) (eq-eqb _ 1 p) | inr p ↦ either-right (has a j) (has b j) (eq-eqb _ 1 p) ])
    (λ h. elim (or-either (has a j) (has b j) h) [ inl p ↦ eq-eqb _ 1 (or_left a b j (eqb-true _ 1 p)) | inr p ↦ eq-eqb _ 1 (or_right a b j (eqb-true _ 1 p)) ])

-- a bit as a number
pub bit_is : (m j : ℕ) → m / 2 ^ j % 2 ≡ cond (has m j) 1 0
bit_is m j = elim (truth (has m j)) [ inl h ↦ rw h (eqb-true _ 1 h) | inr h ↦ rw h (let d = eqb-false _ 1 h in low d) ]
  where
    low : (m / 2 ^ j % 2 ≡ 1 → ⊥) → m / 2 ^ j % 2 ≡ 0
    low d = omega arith

xor : Bool → Bool → Bool
xor true b = not b
xor false b = b

has-xor : (a b j : ℕ) → has (bit_xor a b) j ≡ xor (has a j) (has b j)
unfolding xor
has-xor a b j =
    let step : bit_xor a b / 2 ^ j % 2 ≡ differ (a / 2 ^ j % 2) (b / 2 ^ j % 2) % 2 = rw (xor_shr a b j) (omega (arith, xor_step (a / 2 ^ j) (b / 2 ^ j))) in
    ap (λ (n : ℕ). eqb n 1) (step ∙ ap (λ (n : ℕ). differ n (b / 2 ^ j % 2) % 2) (bit_is a j) ∙ ap (λ (n : ℕ). differ (cond (has a j) 1 0) n % 2) (bit_is b j))
    ∙ go (has a j) (has b j)
  where
    go : (x y : Bool) → eqb (differ (cond x 1 0) (cond y 1 0) % 2) 1 ≡ xor x y
    go true true = refl
    go true false = refl
    go false true = refl
    go false false = refl

-- the members of a set that are not in another
pub has-without : (a b j : ℕ) → has (bit_xor a (bit_and a b)) j ≡ (has a j && not (has b j))
unfolding xor
has-without a b j = has-xor a (bit_and a b) j ∙ ap (xor (has a j)) (has-and a b j) ∙ go (has a j) (has b j)
  where
    go : (x y : Bool) → xor x (x && y) ≡ (x && not y)
    go true y = refl
    go false y = refl
