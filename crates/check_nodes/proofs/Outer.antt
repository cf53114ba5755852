-- Row 5 in two parts: of each node by itself, and of the first node and the last.
-- Assumes nothing.
use mathlib.Core.Path.{◌≡◌, refl, sym, ap, ◌∙◌}
use mathlib.Core.Logic.{inl, inr}
use mathlib.Core.Bool.{Bool, true, false, ◌&&◌, ◌||◌}
use Prim.Native.Nat.{ℕ, ◌-◌, ◌≤◌}
use native.Mathlib.Omega.{arith}
use lib.Dec.{eqb}
use lib.ListN.{length}
use borrow.Author.Tests.{eqb-true, eq-eqb}
use Rattle.lists.specs.Truth.{and_both, both-and, or_cases, or_left, or_right, same_truth}
use Rattle.lists.specs.Range.{any, any-or, any_at, at-any}
use Rattle.chart.specs.Format.{Decoded}
use Rattle.chart.specs.Refusal.{bad_outer, bad_node_at, bad_nodes}
use Rattle.check_nodes.specs.Parts.{alone_at, names_region}

-- the test of the first and the last of n, by the two of them
either : (n : ℕ) (f : ℕ → Bool) → 2 ≤ n → any n (λ x. (eqb x 0 || eqb x (n - 1)) && f x) ≡ (f 0 || f (n - 1))
either n f two = same_truth _ _ to from
  where
    at : ℕ → Bool
    at x = (eqb x 0 || eqb x (n - 1)) && f x

    to : any n at ≡ true → (f 0 || f (n - 1)) ≡ true
    to h =
        let (x, l, p) = any_at n at h in
        let b = and_both (eqb x 0 || eqb x (n - 1)) (f x) p in
        elim (or_cases (eqb x 0) (eqb x (n - 1)) b.0) [
          | inl q ↦ or_left (f 0) (f (n - 1)) (ap f (sym (eqb-true x 0 q)) ∙ b.1)
          | inr q ↦ or_right (f 0) (f (n - 1)) (ap f (sym (eqb-true x (n - 1) q)) ∙ b.1)
        ]

    from : (f 0 || f (n - 1)) ≡ true → any n at ≡ true
    from h = elim (or_cases (f 0) (f (n - 1)) h) [
      | inl p ↦ at-any n at 0 (omega arith) p
      | inr p ↦ at-any n at (n - 1) (omega arith) (both-and _ _ (or_right (eqb (n - 1) 0) _ (eq-eqb (n - 1) (n - 1) refl)) p)
    ]

swap : (a b : Bool) → (a || b) ≡ (b || a)
swap true true = refl
swap true false = refl
swap false true = refl
swap false false = refl

pub parts : (D : Decoded) → 2 ≤ length D.nodes
    → bad_nodes D ≡ ((names_region D 0 || names_region D (length D.nodes - 1)) || any (length D.nodes) (alone_at D))
unfolding bad_nodes bad_node_at bad_outer
parts D two =
    let n = length D.nodes in
    any-or n (alone_at D) (λ x. (eqb x 0 || eqb x (n - 1)) && names_region D x)
    ∙ swap (any n (alone_at D)) _
    ∙ ap (λ (b : Bool). b || any n (alone_at D)) (either n (names_region D) two)
