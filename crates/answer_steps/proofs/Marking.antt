-- One edge more in the masks of the nodes that edges lead to.
-- Assumes nothing.
use mathlib.Core.Path.{◌≡◌, sym, ◌∙◌, ap}
use mathlib.Core.Logic.{inl, inr}
use mathlib.Core.Bool.{Bool, true, false, ◌&&◌, ◌||◌}
use mathlib.Core.List.{List}
use Prim.Native.Nat.{ℕ, ◌+◌, ◌*◌, ◌/◌, ◌%◌, ◌^◌, ◌<◌}
use native.Mathlib.Omega.{arith}
use lib.Bits.{bit_or}
use lib.Dec.{eqb}
use lib.ListN.{length, get_or, set}
use borrow.Author.Tests.{eqb-true, eq-eqb}
use Rattle.lists.specs.Truth.{same_truth, false-if, and_both, both-and, or_left, or_right, or-false, or_cases as either}
use Rattle.lists.specs.Bits.{has}
use Rattle.lists.specs.Mask.{Has, has-none, has-own, has-pow, or_cases, or_left as or-first, or_right as or-second}
use Rattle.lists.specs.Range.{any, any_at, any_next, at-any}
use Rattle.lists.specs.Store.{at_set}
use Rattle.chart.specs.Format.{Edge, decode}
use Rattle.chart.specs.Checked.{reading}
use Rattle.chart.specs.declared.format.Chart.{Chart}
use Rattle.theory_paths.specs.Cut.{edges_of, CutColumns, listed-edge, edge-listed, edges-long, edges_at}
use Rattle.mark_tables.specs.Tables.{Columns}
use Rattle.answer_steps.specs.Words.{Marked}

-- a mask with one bit more
has_more : (b i w : ℕ) → has (bit_or (2 ^ b) w) i ≡ (has w i || eqb b i)
has_more b i w = same_truth _ _ to from
  where
    to : has (bit_or (2 ^ b) w) i ≡ true → (has w i || eqb b i) ≡ true
    to h = elim (or_cases (2 ^ b) w i (eqb-true _ _ h)) [
      | inl p ↦ or_right (has w i) (eqb b i) (eq-eqb b i (sym (has-pow b i p)))
      | inr p ↦ or_left (has w i) (eqb b i) (eq-eqb _ _ p)
    ]

    from : (has w i || eqb b i) ≡ true → has (bit_or (2 ^ b) w) i ≡ true
    from h = elim (either (has w i) (eqb b i) h) [
      | inl p ↦ eq-eqb _ _ (or-second (2 ^ b) w i (eqb-true _ _ p))
      | inr p ↦ eq-eqb _ _ (or-first (2 ^ b) w i (own (eqb-true b i p)))
    ]
      where
        own : b ≡ i → Has (2 ^ b) i
        own e = rw (sym e) (has-own b)

-- no edge yet
pub marked-none : (froms tos : List ℕ) {table : List ℕ} → ((j : ℕ) → j < 1024 → get_or table j 0 ≡ 0) → Marked froms tos 0 table
unfolding any
marked-none froms tos z = record { at = λ x y l k. rw (z (4 * x + y / 64) (omega arith)) (false-if (λ h. has-none (y % 64) (eqb-true _ _ h))) }

pub marked_more : {froms tos : List ℕ} {n : ℕ} {table : List ℕ} (from to i w : ℕ) → from ≡ get_or froms n 0 → to ≡ get_or tos n 0 → from < 256 → to < 256
    → i ≡ 4 * from + to / 64 → i < length table → w ≡ bit_or (2 ^ (to % 64)) (get_or table i 0)
    → Marked froms tos n table → Marked froms tos (n + 1) (set table i w)
marked_more {froms} {tos} {n} {table} from to i w p q l k e b h M = record {
  at = λ x y lx ly. at_set (λ v. has v (y % 64) ≡ any (n + 1) (λ j. eqb (get_or froms j 0) x && eqb (get_or tos j 0) y)) table i w (4 * x + y / 64) b
      (λ d. ap (λ (v : ℕ). has v (y % 64)) h ∙ has_more (to % 64) (y % 64) (get_or table i 0)
      ∙ ap (λ (t : Bool). t || eqb (to % 64) (y % 64)) (ap (λ (j : ℕ). has (get_or table j 0) (y % 64)) (sym d) ∙ M.at x y lx ly)
      ∙ ap (λ (t : Bool). any n (λ j. eqb (get_or froms j 0) x && eqb (get_or tos j 0) y) || t) (same x y lx ly d) ∙ sym (any_next n _))
      (λ d. M.at x y lx ly ∙ sym (any_next n _ ∙ ap (λ (t : Bool). any n (λ j. eqb (get_or froms j 0) x && eqb (get_or tos j 0) y) || t) (other x y d) ∙ or-false _));
}
  where
    same : (x y : ℕ) → x < 256 → y < 256 → 4 * x + y / 64 ≡ i → eqb (to % 64) (y % 64) ≡ (eqb (get_or froms n 0) x && eqb (get_or tos n 0) y)
    same x y lx ly d = same_truth _ _
        (λ g. let r : to % 64 ≡ y % 64 = eqb-true _ _ g in both-and _ _ (eq-eqb _ _ (sym p ∙ row r)) (eq-eqb _ _ (sym q ∙ col r)))
        (λ g. eq-eqb _ _ (ap (λ (z : ℕ). z % 64) (q ∙ eqb-true _ _ (and_both (eqb (get_or froms n 0) x) (eqb (get_or tos n 0) y) g).1)))
      where
        row : to % 64 ≡ y % 64 → from ≡ x
        row r = omega arith

        col : to % 64 ≡ y % 64 → to ≡ y
        col r = omega arith

    other : (x y : ℕ) → (4 * x + y / 64 ≡ i → ⊥) → (eqb (get_or froms n 0) x && eqb (get_or tos n 0) y) ≡ false
    other x y d = false-if (λ g. let (a, c) = and_both (eqb (get_or froms n 0) x) (eqb (get_or tos n 0) y) g in d (place (p ∙ eqb-true _ _ a) (q ∙ eqb-true _ _ c)))
      where
        place : from ≡ x → to ≡ y → 4 * x + y / 64 ≡ i
        place u v = rw (sym u, sym v) (sym e)

-- The region's edges are those of its columns.
module _ (s : List ℕ) (chart : Chart) {froms tos : List ℕ} (C : Columns (edges_of chart.region (decode s)) froms tos) where
  as-cut : CutColumns (decode s) chart.region froms tos (length (edges_of chart.region (decode s)))
  as-cut =
      let D = decode s in
      let p = chart.region in
      record {
        total = edges-long D p;
        from = λ j l. C.from j ∙ ap (λ (e : Edge). e.from) (edges_at D p j (omega (arith, edges-long D p)));
        to = λ j l. C.to j ∙ ap (λ (e : Edge). e.to) (edges_at D p j (omega (arith, edges-long D p)));
      }

  pub edge-any : (x y : ℕ) → (reading s chart).edge x y ≡ any (length (edges_of chart.region (decode s))) (λ i. eqb (get_or froms i 0) x && eqb (get_or tos i 0) y)
  edge-any x y = same_truth _ _
      (λ h. let L = edge-listed as-cut x y h in at-any _ _ L.at L.below (both-and _ _ (eq-eqb _ _ L.key) (eq-eqb _ _ L.value)))
      (λ h. let (i, l, g) = any_at _ _ h in let (a, b) = and_both (eqb (get_or froms i 0) x) (eqb (get_or tos i 0) y) g in
      listed-edge as-cut x y (record { at = i; below = l; key = eqb-true _ _ a; value = eqb-true _ _ b }))
