-- Masks of no number and of one, the intersection of two, and the law of all tests of two masks: an AND is not 0 exactly when a bit is
-- common.
-- Assumes nothing.
use Rattle.std.specs.Prelude.{◌≡◌, ◌⊎◌, ◌≢◌, ◌↔◌, Bool, true, false, not, ℕ, ◌/◌, ◌%◌, ◌^◌, ◌<◌, min, eqb}
use Rattle.std.proofs.Common.{sym, ◌∙◌, inl, inr, arith, pow_pos, eqb-true, eq-eqb, ne_eqb}
use Rattle.std.specs.Int.Bits.{bit_and, and_step, and_lt}
use Rattle.std.proofs.lemmas.Nat.{and_shr}
use Rattle.std.proofs.Math.Pow.{pow-lt}
use Rattle.std.proofs.lemmas.Bool.{eqb-false, not-true}
use Rattle.lists.specs.Truth.{truth, clash}
use Rattle.lists.specs.Range.{any, any_at, at-any}
use Rattle.lists.specs.Mask.{Has, Mask, mask-unique, has-none, has-own, has-pow}
use Rattle.lists.specs.Bits.{has}

-- the bits of an intersection

and-has : (a b i : ℕ) → bit_and a b / 2 ^ i % 2 ≡ min (a / 2 ^ i % 2) (b / 2 ^ i % 2)
and-has a b i = rw (and_shr a b i) (omega (arith, and_step (a / 2 ^ i) (b / 2 ^ i)))

min-both : (x y : ℕ) → x < 2 → y < 2 → min x y ≡ 1 → (x ≡ 1) × (y ≡ 1)
min-both x y l m e = (omega arith, omega arith)

pub and_both : (a b i : ℕ) → Has (bit_and a b) i → Has a i × Has b i
and_both a b i h = min-both (a / 2 ^ i % 2) (b / 2 ^ i % 2) (omega arith) (omega arith) (sym (and-has a b i) ∙ h)

pub both-and : (a b i : ℕ) → Has a i → Has b i → Has (bit_and a b) i
both-and a b i h g = omega (arith, and-has a b i)

pub mask-none : (k : ℕ) → Mask (λ b. ⊥) k 0
mask-none k = record { small = pow_pos k; only = λ b l h. has-none b h; all = λ b l h. absurd h }

pub mask_one : {k c : ℕ} → c < k → Mask (λ b. b ≡ c) k (2 ^ c)
mask_one {k} {c} l = record { small = pow-lt l; only = λ b m h. has-pow c b h; all = λ b m e. rw e (has-own c) }

pub mask-both : {P Q : ℕ → Type 0} {k m n : ℕ} → Mask P k m → Mask Q k n → Mask (λ b. P b × Q b) k (bit_and m n)
mask-both {k = k} {m = m} {n = n} v w = record {
  small = and_lt k m n v.small w.small;
  only = λ b l h. let h = and_both m n b h in (v.only b l h.0, w.only b l h.1);
  all = λ b l h. both-and m n b (v.all b l h.0) (w.all b l h.1);
}

pub some-bit : {P : ℕ → Type 0} {k m : ℕ} → Mask P k m → (m ≢ 0) ↔ ((b : ℕ) × ((b < k) × P b))
some-bit {P} {k} {m} v = ((λ d. go d (truth (any k (has m)))), λ (b, (l, p)) z. has-none b (rw z at (v.all b l p)))
  where
    go : m ≢ 0 → (any k (has m) ≡ true) ⊎ (any k (has m) ≡ false) → (b : ℕ) × ((b < k) × P b)
    go d (inl h) = let (b, l, t) = any_at k (has m) h in (b, (l, v.only b l (eqb-true _ 1 t)))
    go d (inr h) =
        let none : Mask (λ b. ⊥) k m = record {
          small = v.small;
          only = λ b l t. clash (at-any k (has m) b l (eq-eqb _ 1 t)) h;
          all = λ b l t. absurd t;
        } in
        absurd (d (mask-unique none (mask-none k)))

pub common-bit : {P Q : ℕ → Type 0} {k m n : ℕ} → Mask P k m → Mask Q k n → (bit_and m n ≢ 0) ↔ ((b : ℕ) × ((b < k) × (P b × Q b)))
common-bit v w = some-bit (mask-both v w)

-- Two masks have a bit in common.
abbrev pub common : ℕ → ℕ → Bool
common m n = not (eqb (bit_and m n) 0)

-- The same as a test, of two masks.
pub common-test : {P Q : ℕ → Type 0} {k m n : ℕ} → Mask P k m → Mask Q k n → (common m n ≡ true) ↔ ((b : ℕ) × ((b < k) × (P b × Q b)))
common-test v w = (
  (λ h. (common-bit v w).0 (eqb-false _ 0 (not-true _ h))),
  λ h. rw (ne_eqb _ 0 ((common-bit v w).1 h)),
)
