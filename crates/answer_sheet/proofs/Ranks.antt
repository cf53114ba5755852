-- The first rule of 64 nodes by sets of them.
-- Assumes nothing.
use mathlib.Core.Path.{◌≡◌, refl, ap, sym, ◌∙◌}
use mathlib.Core.Logic.{inl, inr}
use mathlib.Core.Bool.{Bool, true, false, ◌&&◌, ◌||◌, not, cond}
use Prim.Native.Nat.{ℕ, zero, suc, ◌+◌, ◌*◌, ◌-◌, ◌/◌, ◌%◌, ◌^◌, ◌<◌}
use native.Mathlib.Omega.{arith}
use native.Mathlib.Numerals.{add-one}
use lib.Bits.{bit_or}
use lib.Dec.{eqb}
use Rattle.lists.specs.Range.{any, first, any_next}
use Rattle.lists.specs.Truth.{bad, truth, and_both}
use Rattle.lists.specs.Mask.{mask_of, mask-of}
use Rattle.lists.specs.Bits.{has}
use Rattle.answer_nodes.proofs.BitTests.{has-or, bit_is, none_has}
use Rattle.answer_pairs.specs.Rules.{numbered, by_rules}

abbrev sum : ℕ → ℕ → ℕ → ℕ → ℕ
sum b o t f = (1 - b) + o + 2 * t + 4 * f

abbrev number : Bool → ℕ
number b = cond b 1 0

-- a digit of a number, in the set that has it
module _ (nodes j : ℕ) where
  part-has : (d : ℕ) → has (cond (eqb d 0) 0 nodes) j ≡ (not (eqb d 0) && has nodes j)
  part-has d = go (eqb d 0)
    where
      go : (e : Bool) → has (cond e 0 nodes) j ≡ (not e && has nodes j)
      go true = rw (none_has j)
      go false = refl

  part-bit : (x d : ℕ) → bit_or x (cond (eqb d 0) 0 nodes) / 2 ^ j % 2 ≡ number (has x j || (not (eqb d 0) && has nodes j))
  part-bit x d = bit_is _ j ∙ ap number (has-or x (cond (eqb d 0) 0 nodes) j ∙ ap (λ (b : Bool). has x j || b) (part-has d))

  part_off : has nodes j ≡ false → (x d : ℕ) → bit_or x (cond (eqb d 0) 0 nodes) / 2 ^ j % 2 ≡ x / 2 ^ j % 2
  part_off h x d = part-bit x d ∙ rw h (go (has x j) (eqb d 0)) ∙ sym (bit_is x j)
    where
      go : (b e : Bool) → number (b || (not e && false)) ≡ number b
      go true e = refl
      go false true = refl
      go false false = refl

  part-on : has nodes j ≡ true → (x d : ℕ) → x / 2 ^ j % 2 ≡ 0 → d < 2 → bit_or x (cond (eqb d 0) 0 nodes) / 2 ^ j % 2 ≡ d
  part-on h x d z l = part-bit x d ∙ rw (h, z) (go d l)
    where
      go : (d : ℕ) → d < 2 → number (not (eqb d 0) && true) ≡ d
      go zero l = refl
      go (suc zero) l = refl
      go (suc (suc d)) l = absurd (omega arith)

  -- the nodes of a set, which had no number, get one
  pub given-digit : (b o t f n : ℕ) → n < 8 → (has nodes j ≡ true → sum (b / 2 ^ j % 2) (o / 2 ^ j % 2) (t / 2 ^ j % 2) (f / 2 ^ j % 2) ≡ 0)
      → sum (b / 2 ^ j % 2) (bit_or o (cond (eqb (n % 2) 0) 0 nodes) / 2 ^ j % 2) (bit_or t (cond (eqb (n / 2 % 2) 0) 0 nodes) / 2 ^ j % 2)
      (bit_or f (cond (eqb (n / 4) 0) 0 nodes) / 2 ^ j % 2)
      ≡ cond (has nodes j) n (sum (b / 2 ^ j % 2) (o / 2 ^ j % 2) (t / 2 ^ j % 2) (f / 2 ^ j % 2))
  given-digit b o t f n l blank = elim (truth (has nodes j)) [
    | inl h ↦ (
        let z = blank h in
        let odd = part-on h o (n % 2) (omega arith) (omega arith) in
        let twos = part-on h t (n / 2 % 2) (omega arith) (omega arith) in
        let fours = part-on h f (n / 4) (omega arith) (omega arith) in
        rw (odd, twos, fours, h) (omega arith))
    | inr h ↦ rw (part_off h o (n % 2), part_off h t (n / 2 % 2), part_off h f (n / 4), h)
  ]

-- the numbers before any rule from rule 2 on
pub none-given : (both j : ℕ) → sum (both / 2 ^ j % 2) (0 / 2 ^ j % 2) (0 / 2 ^ j % 2) (0 / 2 ^ j % 2) ≡ cond (not (has both j)) 1 0
none-given both j = rw (none_has j) (ap (λ (b : ℕ). sum b 0 0 0) (bit_is both j) ∙ go (has both j))
  where
    go : (x : Bool) → sum (number x) 0 0 0 ≡ cond (not x) 1 0
    go true = refl
    go false = refl

-- the turn of the loop over the rules, for one node: whether it is left, and its number
module _ (both : Bool) (rule : ℕ → Bool) (k : ℕ) where
  abbrev pub Ruled : Bool → ℕ → Type 0
  Ruled left n = (left ≡ (both && not (any k rule))) × (n ≡ cond (not both) 1 (numbered k rule))

  pub blank-left : {left : Bool} {n : ℕ} → Ruled left n → (left && rule k) ≡ true → n ≡ 0
  unfolding numbered
  blank-left (p, q) h = q ∙ go both (any k rule) (sym p ∙ (and_both _ _ h).0)
    where
      go : (b a : Bool) → (b && not a) ≡ true → cond (not b) 1 (cond a (first k rule + 2) 0) ≡ 0
      go true true h = absurd (bad (cc))
      go true false h = refl
      go false a h = absurd (bad (cc))

  pub next-left : {left : Bool} {n : ℕ} → Ruled left n → (left && not (rule k)) ≡ (both && not (any (k + 1) rule))
  next-left (p, q) = rw (p, any_next k rule) (go both (any k rule) (rule k))
    where
      go : (b a r : Bool) → ((b && not a) && not r) ≡ (b && not (a || r))
      go true true r = refl
      go true false r = refl
      go false a r = refl

  pub next-number : {left : Bool} {n : ℕ} → Ruled left n → cond (left && rule k) (k + 2) n ≡ cond (not both) 1 (numbered (k + 1) rule)
  unfolding numbered any first
  next-number (p, q) = rw (p, q, add-one k) (go both (any k rule) (rule k))
    where
      go : (b a r : Bool) → cond ((b && not a) && r) (k + 2) (cond (not b) 1 (cond a (first k rule + 2) 0))
          ≡ cond (not b) 1 (cond (a || r) (cond a (first k rule) (cond r k (suc k)) + 2) 0)
      go true true r = refl
      go true false true = refl
      go true false false = refl
      go false a r = refl

-- the number by the first rule alone
pub phase-digit : (both j : ℕ) → 1 - both / 2 ^ j % 2 ≡ by_rules (has both j) (λ k. false)
unfolding by_rules numbered any
phase-digit both j = ap (λ (b : ℕ). 1 - b) (bit_is both j) ∙ go (has both j)
  where
    go : (x : Bool) → 1 - cond x 1 0 ≡ cond (not x) 1 0
    go true = refl
    go false = refl

-- the set of all 64 nodes
all-bits : (j : ℕ) → j < 64 → 18446744073709551615 / 2 ^ j % 2 ≡ 1
unfolding mask_of
all-bits j l = (mask-of (λ b. true) 64).all j l refl

pub alone-digit : (j : ℕ) → j < 64 → sum (18446744073709551615 / 2 ^ j % 2) (0 / 2 ^ j % 2) (18446744073709551615 / 2 ^ j % 2) (18446744073709551615 / 2 ^ j % 2) ≡ 6
alone-digit j l = omega (arith, none_has j, all-bits j l)

pub lacks-digit : (j : ℕ) → j < 64 → sum (18446744073709551615 / 2 ^ j % 2) (18446744073709551615 / 2 ^ j % 2) (18446744073709551615 / 2 ^ j % 2) (18446744073709551615 / 2 ^ j % 2) ≡ 7
lacks-digit j l = omega (arith, all-bits j l)

-- a number with the nodes of a set ahead
pub ahead-digit : (b o t f lacking j : ℕ)
    → sum (bit_or lacking b / 2 ^ j % 2) (bit_or lacking o / 2 ^ j % 2) (bit_or lacking t / 2 ^ j % 2) (bit_or lacking f / 2 ^ j % 2)
    ≡ cond (has lacking j) 7 (sum (b / 2 ^ j % 2) (o / 2 ^ j % 2) (t / 2 ^ j % 2) (f / 2 ^ j % 2))
ahead-digit b o t f lacking j = rw (either-bit b, either-bit o, either-bit t, either-bit f) (go (has lacking j))
  where
    either-bit : (m : ℕ) → bit_or lacking m / 2 ^ j % 2 ≡ cond (has lacking j) 1 (m / 2 ^ j % 2)
    either-bit m = bit_is (bit_or lacking m) j ∙ ap number (has-or lacking m j) ∙ of (has lacking j) (has m j) ∙ ap (λ (n : ℕ). cond (has lacking j) 1 n) (sym (bit_is m j))
      where
        of : (x y : Bool) → number (x || y) ≡ cond x 1 (number y)
        of true y = refl
        of false y = refl

    go : (x : Bool) → sum (cond x 1 (b / 2 ^ j % 2)) (cond x 1 (o / 2 ^ j % 2)) (cond x 1 (t / 2 ^ j % 2)) (cond x 1 (f / 2 ^ j % 2))
        ≡ cond x 7 (sum (b / 2 ^ j % 2) (o / 2 ^ j % 2) (t / 2 ^ j % 2) (f / 2 ^ j % 2))
    go true = refl
    go false = refl
