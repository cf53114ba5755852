-- Nodes that were missed, by a count: where all barriers have 0, another node has it exactly when there are more zeros than barriers.
-- Assumes nothing.
use mathlib.Core.Path.{◌≡◌, ◌∙◌}
use mathlib.Core.Logic.{◌⊎◌, inl, inr}
use mathlib.Core.Bool.{Bool, true, false, ◌&&◌, not}
use mathlib.Core.List.{List}
use Prim.Native.Nat.{ℕ, ◌+◌}
use native.Mathlib.Omega.{arith}
use lib.Dec.{eqb}
use lib.ListN.{get_or}
use borrow.Author.Tests.{eq-eqb, ne_eqb}
use Rattle.lists.specs.Truth.{truth}
use Rattle.lists.specs.Range.{any, any_at, none_passes, count, count-one, count_none}
use Rattle.lists.specs.Counting.{one, count-sum}
use Rattle.lists.specs.Select.{select-length}
use Rattle.chart.specs.Region.{Region}
use Rattle.theory_paths.specs.Decide.{no_barrier}
use Rattle.theory_paths.specs.Phases.{barriers}
use Rattle.mark_tables.specs.Tables.{Stops, Barriers}
use Rattle.mark.specs.Joined.{missing}

module _ {R : Region} {stops nodes : List ℕ} (values : List ℕ) {total : ℕ} (S : Stops R stops) (B : Barriers R nodes total)
    (zero : (x : ℕ) → no_barrier (R.role x) ≡ false → get_or values x 0 ≡ 0) where
  abbrev blank : ℕ → Bool
  blank x = eqb (get_or values x 0) 0

  abbrev missed : ℕ → Bool
  missed x = eqb (get_or stops x 0) 0 && blank x

  abbrev stands : ℕ → Bool
  stands x = not (no_barrier (R.role x))

  parts : (x : ℕ) → (no_barrier (R.role x) ≡ true) ⊎ (no_barrier (R.role x) ≡ false) → one (blank x) ≡ one (stands x) + one (missed x)
  parts x (inl t) = rw (S.at x, t) (omega arith)
  parts x (inr t) = rw (S.at x, t, eq-eqb _ 0 (zero x t))

  sum : count R.nodes blank ≡ total + count R.nodes missed
  unfolding barriers
  sum =
      let e : total ≡ count R.nodes stands = B.count ∙ select-length R.nodes stands in
      omega (arith, e, count-sum R.nodes stands missed blank (λ x l. parts x (truth (no_barrier (R.role x)))))

  pub missing-counted : not (eqb (count R.nodes (λ x. eqb (get_or values x 0) 0)) total) ≡ missing stops values R.nodes
  missing-counted = elim (truth (any R.nodes missed)) [
    | inl h ↦ (let (x, l, p) = any_at R.nodes missed h in
        rw (h, ne_eqb (count R.nodes blank) total (λ e. omega (arith, e, sum, count-one R.nodes missed x l p))))
    | inr h ↦ rw (h, eq-eqb (count R.nodes blank) total (omega (arith, sum, count_none R.nodes missed (none_passes R.nodes missed h))))
  ]
