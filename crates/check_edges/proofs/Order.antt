-- Row 9 of an edge, taken apart: what the order of the edges tells of it, and what it is by itself.
-- Assumes nothing.
use mathlib.Core.Path.{◌≡◌, sym, ◌∙◌}
use mathlib.Core.Logic.{inl, inr}
use mathlib.Core.Bool.{true, false, ◌||◌, not}
use Prim.Native.Nat.{ℕ, zero, suc, ◌-◌, ◌<◌}
use native.Mathlib.Omega.{arith}
use lib.Dec.{eqb, leb}
use lib.ListN.{length}
use borrow.Author.Tests.{lt-ltb}
use Rattle.lists.specs.Truth.{or_cases, or_left, or_right, or-neither, or-false}
use Rattle.lists.specs.Range.{any, any_at, at-any, none_passes, any_same}
use Rattle.chart.specs.Format.{Decoded, edge_at}
use Rattle.chart.specs.Refusal.{bad_edge, rises, bad_edge_at}
use Rattle.check_bare.specs.Told.{bad_next}
use Rattle.check_edges.specs.Tables.{bad_by_itself}

first : (D : Decoded) → bad_by_itself D 0 ≡ bad_edge_at D 0
unfolding bad_edge_at
first D = sym (or-false (bad_by_itself D 0))

-- of the edge after edge i
module _ (D : Decoded) (i : ℕ) where
  abbrev from : ℕ → ℕ
  from k = (edge_at D.edges k).from

  abbrev to : ℕ → ℕ
  to k = (edge_at D.edges k).to

  parts : bad_edge_at D (suc i) ≡ (bad_by_itself D (suc i) || not (rises (from i) (to i) (from (suc i)) (to (suc i))))
  unfolding bad_edge_at
  parts = let q : suc i - 1 ≡ i = omega arith in rw (q, lt-ltb 0 (suc i) (omega arith))

  next-bad : bad_next D i ≡ true → bad_edge_at D (suc i) ≡ true
  unfolding bad_next bad_edge
  next-bad h = parts ∙ (elim (or_cases (leb n (to (suc i))) _ h) [
    | inl l ↦ or_left _ _ (or_left _ _ (or_right (leb n (from (suc i))) _ l))
    | inr k ↦ elim (or_cases (eqb (to (suc i)) 0) _ k) [
      | inl z ↦ or_left _ _ (or_right (leb n (from (suc i)) || leb n (to (suc i))) _ (or_left _ _ z))
      | inr r ↦ or_right (bad_by_itself D (suc i)) _ r
    ]
  ])
    where
      n : ℕ
      n = length D.nodes

  next-good : bad_next D i ≡ false → bad_by_itself D (suc i) ≡ bad_edge_at D (suc i)
  unfolding bad_next
  next-good h =
      let a = or-neither (leb (length D.nodes) (to (suc i))) _ h in
      let b = or-neither (eqb (to (suc i)) 0) _ a.1 in
      rw (parts, b.1) (sym (or-false (bad_by_itself D (suc i))))

module _ (D : Decoded) (m : ℕ) (long : length D.edges ≡ m) where
  pub order-bad : any (m - 1) (bad_next D) ≡ true → any (length D.edges) (bad_edge_at D) ≡ true
  order-bad h =
      let (i, l, b) = any_at (m - 1) (bad_next D) h in
      at-any (length D.edges) (bad_edge_at D) (suc i) (omega arith) (next-bad D i b)

  pub order-good : any (m - 1) (bad_next D) ≡ false → any (length D.edges) (bad_by_itself D) ≡ any (length D.edges) (bad_edge_at D)
  order-good h = any_same (length D.edges) (bad_by_itself D) (bad_edge_at D) same
    where
      same : (i : ℕ) → i < length D.edges → bad_by_itself D i ≡ bad_edge_at D i
      same zero l = first D
      same (suc i) l = next-good D i (none_passes (m - 1) (bad_next D) h i (omega arith))
