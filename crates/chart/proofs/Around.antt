-- Masks of constructs, made one construct after the other: what some construct around a place gives. The masks of a construct are those of its
-- parent, with what it gives itself.
-- Assumes nothing.
use mathlib.Core.Path.{sym, subst}
use mathlib.Core.Logic.{◌⊎◌, inl, inr, ◌≢◌}
use mathlib.Core.Bool.{cond}
use mathlib.Core.List.{List}
use Prim.Native.Nat.{ℕ, ◌≤◌, ◌<◌}
use native.Mathlib.Omega.{arith}
use lib.Bits.{bit_or}
use lib.Dec.{eqb}
use lib.ListN.{get_or}
use borrow.Author.Tests.{eq-eqb, ne_eqb}
use Rattle.lists.specs.Mask.{Mask, mask-carry, mask-either}
use Rattle.lists.specs.Common.{mask-none}
use Rattle.chart.specs.Format.{outside}
use Rattle.chart.specs.Scope.{Encloses, here, up}
use Rattle.chart.proofs.Tree.{Below, first_step, outside-encloses}

-- d is given by a construct that is p or stands above p
abbrev pub Around : (ℕ → ℕ) → (ℕ → ℕ → Type 0) → ℕ → ℕ → Type 0
Around parent Gives p d = (c : ℕ) × (Encloses parent p c × Gives c d)

module _ {parent : ℕ → ℕ} {Gives : ℕ → ℕ → Type 0} {bound : ℕ} where
  pub around-next : (c : ℕ) {m own : ℕ} → c ≢ outside → Mask (Around parent Gives (parent c)) bound m → Mask (Gives c) bound own
      → Mask (Around parent Gives c) bound (bit_or m own)
  around-next c n v w = mask-carry to from (mask-either v w)
    where
      to : (d : ℕ) → d < bound → Around parent Gives (parent c) d ⊎ Gives c d → Around parent Gives c d
      to d l (inl (k, (e, g))) = (k, (up n e, g))
      to d l (inr g) = (c, (here n, g))

      from : (d : ℕ) → d < bound → Around parent Gives c d → Around parent Gives (parent c) d ⊎ Gives c d
      from d l (k, (e, g)) = elim (first_step e) [ inl q ↦ inr (subst (λ (k : ℕ). Gives k d) (sym q) g) | inr u ↦ inl (k, (u, g)) ]

  -- the mask at a place, which may be outside
  pub around-at : {done : ℕ} (masks : List ℕ) → ((c : ℕ) → c < done → Mask (Around parent Gives c) bound (get_or masks c 0)) → done ≤ 48 → (p : ℕ) → Below done p
      → Mask (Around parent Gives p) bound (cond (eqb p outside) 0 (get_or masks p 0))
  around-at masks K most p (inl q) = rw (eq-eqb p outside q) (mask-carry (λ d l h. absurd h) (λ d l h. outside-encloses q h.1.0) (mask-none bound))
  around-at masks K most p (inr l) = rw (ne_eqb p outside (λ q. omega arith)) (K p l)
