-- A set of nodes and the set of a name have a node in common where one of the set has a partner's name.
-- Assumes nothing.
use mathlib.Core.Path.{◌≡◌, sym, subst, ◌∙◌}
use mathlib.Core.Logic.{◌↔◌, inl, inr}
use mathlib.Core.Bool.{Bool, true, ◌&&◌, ◌||◌}
use mathlib.Core.List.{List, []}
use Prim.Native.Nat.{ℕ, ◌+◌, ◌*◌, ◌<◌}
use native.Mathlib.Omega.{arith}
use lib.Dec.{eqb}
use lib.ListN.{get_or}
use borrow.Author.Tests.{eqb-true, eq-eqb}
use Rattle.lists.specs.Truth.{same_truth, and_both, both-and, or_cases, or_left, or_right}
use Rattle.lists.specs.Range.{any_at, at-any}
use Rattle.lists.specs.Mask.{Has, mask_of, mask-of}
use Rattle.lists.specs.Bits.{has, has-below}
use Rattle.lists.specs.Common.{common}
use Rattle.masks.specs.declared.unions.Words.{Words}
use Rattle.answer_nodes.specs.Gathered.{having}
use Rattle.answer_nodes.specs.Shared.{common-of}
use Rattle.answer_nodes.proofs.Joining.{three-words}
use Rattle.answer_met.specs.Meets.{SetFrom, NodeSet}
use Rattle.answer_nodes.specs.NodeSets.{ByBit}
use Rattle.answer_locks.specs.Search.{has_named, partner}

module _ (closed names : List ℕ) (test : ℕ → Bool) (c : ℕ) where
  -- y is one
  abbrev is : ℕ → Bool
  is y = (eqb (get_or closed y 0) 0 && has (get_or names y 0) c) && test y

  -- of 64 nodes
  word_of : (first set bits : ℕ) → SetFrom closed test first set → bits ≡ mask_of (having closed names first c) 64
      → (common set bits ≡ true) ↔ ((j : ℕ) × ((j < 64) × (is (first + j) ≡ true)))
  word_of first set bits S q = (
    (λ h.
        let (j, (p, r)) = (common-of set bits).0 h in
        let f = having closed names first c in
        let w = subst (λ (m : ℕ). Has m j) q r in
        let l = has-below (mask_of f 64) 64 j (mask-of f 64).small w in
        let named = (mask-of f 64).only j l w in
        let (o, t) = and_both (eqb (get_or closed (first + j) 0) 0) (test (first + j)) (sym (S j l) ∙ eq-eqb _ 1 p) in
        (j, (l, both-and _ _ named t))),
    λ (j, (l, h)).
        let (n, t) = and_both (eqb (get_or closed (first + j) 0) 0 && has (get_or names (first + j) 0) c) (test (first + j)) h in
        let (o, m) = and_both (eqb (get_or closed (first + j) 0) 0) (has (get_or names (first + j) 0) c) n in
        (common-of set bits).1 (j, (eqb-true _ 1 (S j l ∙ both-and _ _ o t), rw q ((mask-of (having closed names first c) 64).all j l n))),
  )

  pub partner-by : {set : Words} {named : List (List ℕ)} → c < 64 → NodeSet closed test set → ByBit closed names named → has_named set named c ≡ partner closed names test c
  unfolding has_named partner
  partner-by {set} {named} l S N = same_truth _ _
      (λ h. elim (or_cases one (two || three) h) [
        | inl p ↦ some (64 * 0) (low.0 p) (λ j m. omega arith)
        | inr r ↦ elim (or_cases two three r) [ inl p ↦ some (64 * 1) (middle.0 p) (λ j m. omega arith) | inr p ↦ some (64 * 2) (high.0 p) (λ j m. omega arith) ]
      ])
      (λ h. let (y, m, p) = any_at 192 is h in
      three-words (λ y. is y ≡ true → (one || (two || three)) ≡ true)
      (λ j b t. or_left one (two || three) (low.1 (j, (b, t))))
      (λ j b t. or_right one (two || three) (or_left two three (middle.1 (j, (b, t)))))
      (λ j b t. or_right one (two || three) (or_right two three (high.1 (j, (b, t)))))
      y m p)
    where
      one : Bool
      one = common set.low (get_or (get_or named 0 []) c 0)

      two : Bool
      two = common set.middle (get_or (get_or named 1 []) c 0)

      three : Bool
      three = common set.high (get_or (get_or named 2 []) c 0)

      low : (one ≡ true) ↔ ((j : ℕ) × ((j < 64) × (is (64 * 0 + j) ≡ true)))
      low = word_of (64 * 0) set.low _ S.low ((N.sets 0 (omega arith)).at c l)

      middle : (two ≡ true) ↔ ((j : ℕ) × ((j < 64) × (is (64 * 1 + j) ≡ true)))
      middle = word_of (64 * 1) set.middle _ S.middle ((N.sets 1 (omega arith)).at c l)

      high : (three ≡ true) ↔ ((j : ℕ) × ((j < 64) × (is (64 * 2 + j) ≡ true)))
      high = word_of (64 * 2) set.high _ S.high ((N.sets 2 (omega arith)).at c l)

      some : (first : ℕ) → (j : ℕ) × ((j < 64) × (is (first + j) ≡ true)) → ((j : ℕ) → j < 64 → first + j < 192) → partner closed names test c ≡ true
      some first (j, (m, h)) below = at-any 192 is (first + j) (below j m) h

-- who passes one test and so another is a partner by both
pub partner-more : (closed names : List ℕ) (test more : ℕ → Bool) (c : ℕ) → ((y : ℕ) → test y ≡ true → more y ≡ true)
    → partner closed names test c ≡ true → partner closed names more c ≡ true
unfolding partner
partner-more closed names test more c f h =
    let (y, l, p) = any_at 192 (is closed names test c) h in
    let (n, t) = and_both (eqb (get_or closed y 0) 0 && has (get_or names y 0) c) (test y) p in
    at-any 192 (is closed names more c) y l (both-and _ _ n (f y t))
