-- The constructs of a region, one after the other: a construct is one where it is no parallel and stands directly in the region or in one that is.
-- Assumes nothing.
use mathlib.Core.Path.{◌≡◌, refl, ap, sym, ◌∙◌, subst}
use mathlib.Core.Logic.{◌⊎◌, inl, inr, ◌≢◌}
use mathlib.Core.Bool.{Bool, true, false, ◌&&◌, ◌||◌, not, cond}
use Prim.Native.Nat.{ℕ, ◌<◌}
use native.Mathlib.Omega.{arith}
use native.Mathlib.Decide.{ℕ_discrete}
use lib.Dec.{eqb}
use lib.ListN.{length}
use borrow.Author.Tests.{eq-eqb, ne_eqb}
use Rattle.lists.specs.Truth.{truth, clash, or-false}
use Rattle.lists.specs.Mask.{mask_of}
use Rattle.lists.specs.Bits.{has, has_of}
use Rattle.chart.specs.Format.{outside, Decoded, construct_at}
use Rattle.chart.specs.Scope.{parent_of}
use Rattle.chart.specs.Nested.{is_parallel, region_at, counts_in}
use Rattle.chart.proofs.Tree.{Below, below_more}
use Rattle.chart.proofs.Near.{region-step}
use Rattle.chart.proofs.Facts.{Named, TablesFit}
use Rattle.chart.proofs.Tables.{parents}
use Rattle.answer_constructs.specs.Chains.{is_member}

module _ (D : Decoded) (F : TablesFit D) (p : ℕ) (N : Named D.constructs p) where
  abbrev parent : ℕ → ℕ
  parent = parent_of D.constructs

  abbrev shut : ℕ → Bool
  shut = is_parallel D.constructs

  abbrev home : ℕ → ℕ
  home q = region_at parent shut (length D.constructs) q

  -- what is no parallel does not name the region
  unnamed : {q : ℕ} → q ≢ outside → shut q ≡ false → q ≢ p
  unnamed n h z = elim N [ inl o ↦ n (z ∙ o) | inr k ↦ clash k (subst (λ (c : ℕ). shut c ≡ false) z h) ]

  -- the region of the place q is p
  within : (q : ℕ) → Below (length D.constructs) q → eqb (home q) p ≡ (eqb q p || (not (eqb q outside) && counts_in D.constructs p q))
  unfolding counts_in
  within q b = ap (λ (r : ℕ). eqb r p) (region-step parent shut (length D.constructs) (parents D F) q b) ∙ go (ℕ_discrete q outside) (truth (shut q))
    where
      go : Dec (q ≡ outside) → (shut q ≡ true) ⊎ (shut q ≡ false)
          → eqb (cond (eqb q outside || shut q) q (home (parent q))) p ≡ (eqb q p || (not (eqb q outside) && (not (shut q) && eqb (home (parent q)) p)))
      go (yes z) h = rw (eq-eqb q outside z) (sym (or-false (eqb q p)))
      go (no n) (inl h) = rw (ne_eqb q outside n, h) (sym (or-false (eqb q p)))
      go (no n) (inr h) = rw (ne_eqb q outside n, h, ne_eqb q p (unnamed n h)) refl

  seen : (c q : ℕ) → Below c q → (not (eqb q outside) && has (mask_of (counts_in D.constructs p) c) q) ≡ (not (eqb q outside) && counts_in D.constructs p q)
  seen c q (inl z) = rw (eq-eqb q outside z)
  seen c q (inr l) = rw (has_of (counts_in D.constructs p) c q l)

  pub member-next : (c : ℕ) → c < length D.constructs
      → is_member (construct_at D.constructs c).kind (parent_of D.constructs c) p (mask_of (counts_in D.constructs p) c) ≡ counts_in D.constructs p c
  unfolding is_member counts_in is_parallel
  member-next c l =
      let b = parents D F c l in
      ap (λ (t : Bool). not (shut c) && t) (ap (λ (t : Bool). eqb (parent c) p || t) (seen c (parent c) b) ∙ sym (within (parent c) (below_more (omega arith) b)))
