-- The constructs around a construct and around a node, as masks.
-- Assumes nothing.
use mathlib.Core.Path.{◌≡◌, sym, ◌∙◌, subst}
use mathlib.Core.Logic.{◌⊎◌, inl, inr}
use mathlib.Core.List.{List}
use Prim.Native.Nat.{ℕ, ◌+◌, ◌^◌, ◌≤◌, ◌<◌}
use native.Mathlib.Omega.{arith}
use lib.Bits.{bit_or}
use lib.Pow.{pow-lt}
use lib.ListN.{length, set, length-set}
use borrow.Author.Tests.{eq-eqb, ne_eqb}
use Rattle.lists.specs.Mask.{Mask, mask_of, mask-carry, mask_is, mask-either, has-own, has-pow}
use Rattle.lists.specs.Store.{stored}
use Rattle.chart.specs.Format.{outside, Decoded}
use Rattle.chart.specs.Scope.{Encloses, here, up, parent_of, lies_at}
use Rattle.chart.specs.Reading.{inside_at}
use Rattle.chart.proofs.Facts.{TablesFit}
use Rattle.chart.proofs.Tables.{parents, lies-below}
use Rattle.chart.proofs.Tree.{Below, first_step, outside-encloses, computed, computes}
use Rattle.answer_constructs.specs.Chains.{mask_at}
use Rattle.answer_constructs.proofs.Constructs.{no-bit}
use Rattle.answer_steps.specs.Words.{Above}

-- the mask at a place, which may be outside
around-at : {D : Decoded} {n : ℕ} {above : List ℕ} → Above D n above → n ≤ 48 → (p : ℕ) → Below n p → Mask (Encloses (parent_of D.constructs) p) 48 (mask_at above p)
unfolding mask_at
around-at K most p (inl q) = rw (eq-eqb p outside q) (no-bit (λ d l h. outside-encloses q h))
around-at K most p (inr l) = rw (ne_eqb p outside (λ q. omega arith)) (K.at p l)

pub above_more : {D : Decoded} {c : ℕ} {above : List ℕ} → TablesFit D → length D.constructs ≤ 48 → c < length D.constructs → Above D c above
    → Above D (c + 1) (set above c (bit_or (2 ^ c) (mask_at above (parent_of D.constructs c))))
above_more {D} {c} {above} F most l K = record {
  long = length-set above c _ ∙ K.long;
  at = stored (λ j m. Mask (Encloses parent j) 48 m) above c _ (omega (arith, K.long)) next K.at;
}
  where
    parent : ℕ → ℕ
    parent = parent_of D.constructs

    low : c < 48
    low = omega arith

    inner : c ≡ outside → ⊥
    inner q = omega arith

    one : Mask (λ d. d ≡ c) 48 (2 ^ c)
    one = record { small = pow-lt low; only = λ d j h. has-pow c d h; all = λ d j e. rw e (has-own c) }

    to : (d : ℕ) → d < 48 → (d ≡ c) ⊎ Encloses (parent_of D.constructs) (parent_of D.constructs c) d → Encloses (parent_of D.constructs) c d
    to d j (inl e) = subst (λ (k : ℕ). Encloses (parent_of D.constructs) c k) (sym e) (here inner)
    to d j (inr e) = up inner e

    from : (d : ℕ) → d < 48 → Encloses (parent_of D.constructs) c d → (d ≡ c) ⊎ Encloses (parent_of D.constructs) (parent_of D.constructs c) d
    from d j e = elim (first_step e) [ inl q ↦ inl (sym q) | inr u ↦ inr u ]

    next : Mask (Encloses (parent_of D.constructs) c) 48 (bit_or (2 ^ c) (mask_at above (parent_of D.constructs c)))
    next = mask-carry to from (mask-either one (around-at K (omega arith) (parent_of D.constructs c) (parents D F c l)))

pub around-node : {D : Decoded} {n : ℕ} {above : List ℕ} → TablesFit D → n ≡ length D.constructs → n ≤ 48 → Above D n above → (x : ℕ)
    → mask_at above (lies_at D.nodes D.constructs x) ≡ mask_of (inside_at D.nodes D.constructs x) 48
unfolding inside_at
around-node {D} {n} F q most K x =
    let low = lies-below D F x in
    mask_is _
    (λ d l e. computes (parent_of D.constructs) (length D.constructs) (parents D F) e (length D.constructs) (omega arith) low)
    (λ d l h. computed (parent_of D.constructs) (length D.constructs) _ d h)
    (around-at K most _ (subst (λ (k : ℕ). Below k (lies_at D.nodes D.constructs x)) (sym q) low))
