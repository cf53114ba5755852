-- What is in a section, in a region that is well formed: in its sections too; and an edge to a section's begin comes from the begin of its
-- sections alone.
-- Assumes nothing.
use mathlib.Core.Path.{◌≡◌, ap, sym, ◌∙◌}
use mathlib.Core.Logic.{inl, inr}
use mathlib.Core.Bool.{true}
use Prim.Native.Nat.{ℕ, ◌<◌}
use Rattle.lists.specs.Truth.{bad}
use Rattle.chart.specs.Region.{opens, closes, sections, section, Region}
use Rattle.chart.specs.InSection.{InSection}
use Rattle.chart.specs.WellFormed.{WellFormed}

module _ {R : Region} (W : WellFormed R) where
  pub section-begun : {x s : ℕ} → InSection R x s → R.role (R.begin s) ≡ opens s
  section-begun i = elim i.within [
    | inl h ↦ W.inside-begun h
    | inr (inl o) ↦ ap R.role (sym (W.opens-begin o)) ∙ o
    | inr (inr o) ↦ W.closes-begun o
  ]

  pub section-below : {x s : ℕ} → InSection R x s → s < R.constructs
  section-below i = W.opens-below (section-begun i)

  pub sections-of : {x s : ℕ} → InSection R x s → R.kind (R.parent s) ≡ sections
  sections-of i = W.section-sections (section-begun i) i.is-section

  pub inside-sections : {x s : ℕ} → InSection R x s → R.inside x (R.parent s) ≡ true
  inside-sections {x} {s} i = elim i.within [
    | inl h ↦ W.section-inside h i.is-section
    | inr (inl o) ↦ W.section-begin o i.is-section
    | inr (inr o) ↦ (let b = W.closes-begun o in
        ap (λ (n : ℕ). R.inside n (R.parent s)) (W.closes-end o) ∙ W.same-scope b (R.parent s) ∙ W.section-begin b i.is-section)
  ]

  module _ {x s : ℕ} (w : R.role x ≡ opens s) (k : R.kind s ≡ section) where
    not-inside : {j : ℕ} → R.inside x j ≡ true → R.kind j ≡ section → ⊥
    not-inside i j = bad (cc (W.section-critical w i j, k))

    not-closed : {j : ℕ} → R.role x ≡ closes j → ⊥
    not-closed v = bad (cc (w, v))

    -- nothing in a section leads to x
    not-from : (z j : ℕ) → R.edge z x ≡ true → InSection R z j → ⊥
    not-from z j e i = elim i.within [
      | inl h ↦ elim (W.leave e h) [ inl a ↦ not-inside a i.is-section | inr v ↦ not-closed v ]
      | inr (inl h) ↦ elim (W.after-begin e h) [ inl a ↦ not-inside a i.is-section | inr v ↦ not-closed v ]
      | inr (inr h) ↦ not-closed (W.section-out e h i.is-section)
    ]

    pub assigned-from : {z : ℕ} → R.edge z x ≡ true → R.role z ≡ opens (R.parent s)
    assigned-from {z} e = elim (W.enter e (W.section-begin w k)) [
      | inl i ↦ (let (j, (o, b)) = W.sections-section i (W.section-sections w k) in absurd (not-from z j e b))
      | inr v ↦ v
    ]
