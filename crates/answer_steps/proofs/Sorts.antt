-- The masks by construct, as one construct more is added; and what masks tell of the sections and ordereds that they are of.
-- Assumes nothing.
use mathlib.Core.Path.{◌≡◌, sym, ◌∙◌, ap}
use mathlib.Core.Logic.{◌⊎◌, inl, inr, ◌↔◌}
use mathlib.Core.Bool.{Bool, true, false, ◌&&◌, ◌||◌, not, cond}
use mathlib.Core.List.{List}
use Prim.Native.Nat.{ℕ, ◌+◌, ◌*◌, ◌^◌, ◌≤◌, ◌<◌}
use native.Mathlib.Omega.{arith}
use lib.Bits.{bit_and, bit_or, and_le_r}
use lib.Dec.{eqb}
use lib.ListN.{length, get_or, set}
use borrow.Author.Tests.{eqb-true, eq-eqb, ne_eqb, eqb-false, not-true}
use Rattle.lists.specs.Truth.{truth, same_truth, and_both, both-and, or_right, and-false}
use Rattle.lists.specs.Bits.{has, mask_next}
use Rattle.lists.specs.Mask.{Has, Mask, mask_of, mask-of, mask-unique}
use Rattle.lists.specs.Common.{common, some-bit, and_both as and-bits, both-and as bits-and}
use Rattle.lists.specs.Range.{every, every-at, any, any_at, at-any}
use Rattle.lists.specs.Store.{at_set}
use Rattle.theory_traces.proofs.TestsLaws.{own, every_of}
use Rattle.answer_steps.specs.Children.{section_at, ordered_at, sort_at, Children}
use Rattle.answer_steps.proofs.Filling.{beside_none, beside-more}

-- the sort of a construct is told by words before the masks
sort-same : (which : ℕ) (old new : List ℕ) → ((j : ℕ) → j < 2037 → get_or new j 0 ≡ get_or old j 0) → (x : ℕ) → x < 48 → get_or old (1936 + x) 0 < 256
    → sort_at which new x ≡ sort_at which old x
unfolding sort_at section_at ordered_at
sort-same which old new w x l b = rw (
  w (1936 + x) (omega arith),
  w (1024 + get_or old (1936 + x) 0) (omega arith),
  w (1280 + get_or old (1936 + x) 0) (omega arith),
  w (1792 + x) (omega arith),
  w 2032 (omega arith),
)

pub children-none : (which : ℕ) {table : List ℕ} → ((j : ℕ) → 2037 + 48 * which ≤ j → get_or table j 0 ≡ 0) → Children which 0 table table
unfolding mask_of
children-none which z = record { at = λ c l. z (2037 + 48 * which + c) (omega arith); beside = beside_none _ _ _ }

module _ {which x : ℕ} {old new : List ℕ} (K : Children which x old new) where
  before : (j : ℕ) → j < 2037 → get_or new j 0 ≡ get_or old j 0
  before j l = K.beside.rest j (inl (omega arith))

  abbrev child : ℕ → ℕ → Bool
  child c x = sort_at which old x && eqb (get_or old (1840 + x) 0) c

  -- one construct more, by whether it is a child
  next : (c : ℕ) {b : Bool} → child c x ≡ b → mask_of (child c) (x + 1) ≡ cond b (bit_or (2 ^ x) (mask_of (child c) x)) (mask_of (child c) x)
  next c h = mask_next (child c) x ∙ ap (λ (b : Bool). cond b (bit_or (2 ^ x) (mask_of (child c) x)) (mask_of (child c) x)) h

  none : ((c : ℕ) → c < 48 → child c x ≡ false) → Children which (x + 1) old new
  none h = record { at = λ c l. K.at c l ∙ sym (next c (h c l)); beside = K.beside }

  module _ (few : x < 48) (begin : get_or new (1936 + x) 0 < 256) {sort : Bool} (asked : sort ≡ sort_at which new x) {parent : ℕ} (at-parent : parent ≡ get_or new (1840 + x) 0) where
    is-sort : sort ≡ sort_at which old x
    is-sort = asked ∙ sort-same which old new before x few (omega (arith, before (1936 + x) (omega arith)))

    is-parent : parent ≡ get_or old (1840 + x) 0
    is-parent = at-parent ∙ before (1840 + x) (omega arith)

    -- without a parent, of another sort, and a child
    pub children-alone : 48 ≤ parent → Children which (x + 1) old new
    children-alone l = none (λ c k. rw (ne_eqb (get_or old (1840 + x) 0) c (λ e. omega (arith, is-parent))) (and-false (sort_at which old x)))

    pub children-other : sort ≡ false → Children which (x + 1) old new
    children-other h = none (λ c k. rw (sym is-sort ∙ h))

    pub children-more : sort ≡ true → parent < 48 → {place : ℕ} → place ≡ 2037 + 48 * which + parent → place < length new → {w : ℕ} → w ≡ bit_or (2 ^ x) (get_or new place 0)
        → Children which (x + 1) old (set new place w)
    children-more h l {place} q fits {w} e = record {
      at = λ c k. at_set (λ v. v ≡ mask_of (child c) (x + 1)) new place w (2037 + 48 * which + c) fits
          (λ d. let same : parent ≡ c = omega arith in e ∙ ap (bit_or (2 ^ x)) (ap (λ (j : ℕ). get_or new j 0) (sym d) ∙ K.at c k) ∙ sym (next c (both-and _ _ (sym is-sort ∙ h) (eq-eqb _ c (sym is-parent ∙ same)))))
          (λ d. K.at c k ∙ sym (next c {b = false} (rw (ne_eqb (get_or old (1840 + x) 0) c (λ u. d (apart c (is-parent ∙ u)))) (and-false (sort_at which old x)))));
      beside = beside-more place w (omega arith) (omega arith) K.beside;
    }
      where
        apart : (c : ℕ) → parent ≡ c → 2037 + 48 * which + c ≡ place
        apart c u = omega arith

-- a bit of a mask that passes
pub common-any : (m : ℕ) (f : ℕ → Bool) (k : ℕ) → common m (mask_of f k) ≡ any k (λ b. has m b && f b)
common-any m f k = same_truth _ _
    (λ h. let (b, (l, p)) = (some-bit bits).0 (eqb-false _ 0 (not-true _ h)) in let (a, c) = and-bits m (mask_of f k) b p in
    at-any k _ b l (both-and _ _ (eq-eqb _ 1 a) ((mask-of f k).only b l c)))
    (λ h. let (b, l, g) = any_at k _ h in let (a, c) = and_both (has m b) (f b) g in
    rw (ne_eqb _ 0 ((some-bit bits).1 (b, (l, bits-and m (mask_of f k) b (eqb-true _ 1 a) ((mask-of f k).all b l c))))))
  where
    bits : Mask (Has (bit_and m (mask_of f k))) k (bit_and m (mask_of f k))
    bits = record { small = omega (arith, and_le_r m (mask_of f k), (mask-of f k).small); only = λ b l p. p; all = λ b l p. p }

-- all of those that pass f are bits of m, where a bit of m tells that g does not pass
pub all-covered : (m : ℕ) (f : ℕ → Bool) (k : ℕ) (g : ℕ → Bool) → ((b : ℕ) → b < k → f b ≡ true → Has m b ↔ (g b ≡ false))
    → eqb (bit_and m (mask_of f k)) (mask_of f k) ≡ every k (λ b. not (f b) || not (g b))
all-covered m f k g e = same_truth _ _
    (λ h. (every_of k (λ b. own (not (f b) || not (g b)))).1 (λ b l. covered (eqb-true _ _ h) b l (truth (f b))))
    (λ h. eq-eqb _ _ (mask-unique (record {
      small = omega (arith, and_le_r m (mask_of f k), (mask-of f k).small);
      only = λ b l p. (mask-of f k).only b l (and-bits m (mask_of f k) b p).1;
      all = λ b l t. bits-and m (mask_of f k) b ((e b l t).1 (passed b t (every-at k _ h b l))) ((mask-of f k).all b l t);
    }) (mask-of f k)))
  where
    covered : bit_and m (mask_of f k) ≡ mask_of f k → (b : ℕ) → b < k → (f b ≡ true) ⊎ (f b ≡ false) → (not (f b) || not (g b)) ≡ true
    covered q b l (inl t) = or_right (not (f b)) (not (g b)) (rw ((e b l t).0 (and-bits m (mask_of f k) b (rw q ((mask-of f k).all b l t))).0))
    covered q b l (inr t) = rw t

    passed : (b : ℕ) → f b ≡ true → (not (f b) || not (g b)) ≡ true → g b ≡ false
    passed b t h = not-true (g b) (rw t at h)
