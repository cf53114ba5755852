-- Which singles, sections, dos, ordereds and masters a node is inside.
-- Assumes nothing.
use Rattle.std.specs.Prelude.{◌≡◌, refl, ◌⊎◌, Bool, true, ◌&&◌, ℕ, ◌<◌}
use Rattle.std.proofs.Common.{ap, sym, ◌∙◌, subst, inl, inr}
use Rattle.lists.specs.Truth.{clash, truth, is, is_true, true-is, and_both, both-and}
use Rattle.lists.specs.Range.{any, any_at, at-any}
use Rattle.chart.specs.Region.{Kind, Kind-discrete, single, master, critical, loop, ordered, sections, section, parallel, Outermost, Region}
use Rattle.chart.specs.InOrdered.{InOrdered}
use Rattle.chart.specs.WellFormed.{WellFormed}

-- x is inside a construct of kind k; inside none
abbrev pub Within : Region → Kind → ℕ → Type 0
Within R k x = (c : ℕ) × (R.kind c ≡ k) × (R.inside x c ≡ true)

abbrev pub Without : Region → Kind → ℕ → Type 0
Without R k x = (c : ℕ) → R.kind c ≡ k → R.inside x c ≡ true → ⊥

pub in-ordered : {R : Region} {x : ℕ} (h : Within R ordered x) → InOrdered R x (R.parent h.0)
in-ordered h = record { construct = h.0; is-ordered = h.1; of-do = refl; within = h.2 }

pub single-outermost : {k : Kind} → k ≡ single → Outermost k
single-outermost q = subst Outermost (sym q) tt

pub sections-outermost : {k : Kind} → k ≡ sections → Outermost k
sections-outermost q = subst Outermost (sym q) tt

-- Kinds of constructs whose every instance gives each part of the work to one thread.
abbrev pub Exclusive : Kind → Type 0
Exclusive single = Unit {0}
Exclusive master = ⊥
Exclusive critical = ⊥
Exclusive loop = ⊥
Exclusive ordered = ⊥
Exclusive sections = Unit {0}
Exclusive section = ⊥
Exclusive parallel = ⊥

pub exclusive-outermost : (k : Kind) → Exclusive k → Outermost k
exclusive-outermost single h = tt
exclusive-outermost master h = h
exclusive-outermost critical h = h
exclusive-outermost loop h = absurd h
exclusive-outermost ordered h = h
exclusive-outermost sections h = tt
exclusive-outermost section h = h
exclusive-outermost parallel h = h

-- x is inside a construct of such a kind; inside none
abbrev pub WithinExclusive : Region → ℕ → Type 0
WithinExclusive R x = (c : ℕ) × Exclusive (R.kind c) × (R.inside x c ≡ true)

abbrev pub WithoutExclusive : Region → ℕ → Type 0
WithoutExclusive R x = (c : ℕ) → Exclusive (R.kind c) → R.inside x c ≡ true → ⊥

module _ {R : Region} (W : WellFormed R) where
  pub within : (k : Kind) (x : ℕ) → Within R k x ⊎ Without R k x
  within k x = elim (truth (any R.constructs holding)) [
    | inl h ↦ inl (found (any_at R.constructs holding h))
    | inr h ↦ inr (λ c q i. clash (at-any R.constructs holding c (W.inside-below i) (both-and _ _ (true-is (Kind-discrete (R.kind c) k) q) i)) h)
  ]
    where
      holding : ℕ → Bool
      holding c = is (Kind-discrete (R.kind c) k) && R.inside x c

      found : (c : ℕ) × (c < R.constructs) × (holding c ≡ true) → Within R k x
      found h = let b = and_both _ _ h.2 in (h.0, is_true (Kind-discrete (R.kind h.0) k) b.0, b.1)

  pub inside-do : {x d : ℕ} → InOrdered R x d → R.inside x d ≡ true
  inside-do {x} o = subst (λ (e : ℕ). R.inside x e ≡ true) o.of-do (W.ordered-inside o.within o.is-ordered)

  pub is-do : {x d : ℕ} → InOrdered R x d → R.kind d ≡ loop
  is-do o = ap R.kind (sym o.of-do) ∙ W.ordered-loop o.within o.is-ordered

  pub do-outermost : {x d : ℕ} → InOrdered R x d → Outermost (R.kind d)
  do-outermost o = subst Outermost (sym (is-do o)) tt

  pub within-exclusive : (x : ℕ) → WithinExclusive R x ⊎ WithoutExclusive R x
  within-exclusive x = elim (within single x) [
    | inl (c, k, i) ↦ inl (c, subst Exclusive (sym k) tt, i)
    | inr n ↦ elim (within sections x) [
      | inl (c, k, i) ↦ inl (c, subst Exclusive (sym k) tt, i)
      | inr l ↦ inr (λ c h i. neither (R.kind c) h (λ q. n c q i) (λ q. l c q i))
    ]
  ]
    where
      neither : (k : Kind) → Exclusive k → ¬ (k ≡ single) → ¬ (k ≡ sections) → ⊥
      neither single h n l = n refl
      neither master h n l = h
      neither critical h n l = h
      neither loop h n l = h
      neither ordered h n l = h
      neither sections h n l = l refl
      neither section h n l = h
      neither parallel h n l = h

  -- no node is inside a single or a sections and inside a do
  pub exclusive-or-do : {x c d : ℕ} → Exclusive (R.kind c) → R.inside x c ≡ true → R.kind d ≡ loop → R.inside x d ≡ true → ⊥
  exclusive-or-do {c = c} h i k j =
      subst Exclusive (ap R.kind (W.one-outermost i j (exclusive-outermost (R.kind c) h) (subst Outermost (sym k) tt)) ∙ k) h

  pub exclusive-or-ordered : {x c d : ℕ} → Exclusive (R.kind c) → R.inside x c ≡ true → InOrdered R x d → ⊥
  exclusive-or-ordered h i o = exclusive-or-do h i (is-do o) (inside-do o)
