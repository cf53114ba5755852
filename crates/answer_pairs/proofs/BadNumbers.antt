-- Row 13 of a number, by the flag of a node that a claim may not name.
-- Assumes nothing.
use mathlib.Core.Path.{◌≡◌}
use mathlib.Core.Bool.{true, not, cond}
use mathlib.Core.Logic.{inl, inr}
use Prim.Native.Nat.{ℕ, ◌≤◌}
use native.Mathlib.Omega.{arith}
use lib.Dec.{eqb}
use Rattle.lists.specs.Truth.{truth}
use Rattle.chart.specs.Region.{Region}
use Rattle.chart.specs.WellFormed.{WellFormed}
use Rattle.theory_answers.specs.Numbers.{asked, asked-node, bad_number}

module _ (R : Region) (x : ℕ) where
  pub past-bad : WellFormed R → R.nodes ≤ x → bad_number R x ≡ true
  unfolding bad_number
  past-bad W l = elim (truth (asked R x)) [ inl h ↦ absurd (omega (arith, W.kept-below (asked-node R x h).0)) | inr h ↦ rw h ]

  pub flag-bad : (flag : ℕ) → flag ≡ cond (asked R x) 0 1 → bad_number R x ≡ not (eqb flag 0)
  unfolding bad_number
  flag-bad flag e = elim (truth (asked R x)) [ inl h ↦ rw (e, h) | inr h ↦ rw (e, h) ]
