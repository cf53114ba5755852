-- Paths in any graph, cut at a node, and at the door of a set of nodes.
-- Assumes nothing.
use Rattle.std.specs.Prelude.{◌≡◌, ◌⊎◌, ◌≢◌, ℕ}
use Rattle.std.proofs.Common.{subst, inl, inr}
use Rattle.std.proofs.Math.Decide.{ℕ_discrete}
use Rattle.theory_paths.specs.Path.{Path, last, next, Any}

abbrev pub Both : (ℕ → Type 0) → (ℕ → Type 0) → ℕ → Type 0
Both P Q x = P x × Q x

abbrev pub Not : ℕ → ℕ → Type 0
Not z x = x ≢ z

module _ {E : ℕ → ℕ → Type 0} {P : ℕ → Type 0} where
  -- a path does not pass z, or a first part of it leads to z and does not pass it before
  pub avoid : (z : ℕ) {x y : ℕ} → Path E P x y → Path E (Both P (Not z)) x y ⊎ Path E (Both P (Not z)) x z
  avoid z (last e) = inl (last e)
  avoid z {x} (next {z = v} e p w) = elim (ℕ_discrete v z) [
    | yes q ↦ inr (subst (λ (n : ℕ). Path E (Both P (Not z)) x n) q (last e))
    | no n ↦ elim (avoid z w) [ inl u ↦ inl (next e (p, n) u) | inr u ↦ inr (next e (p, n) u) ]
  ]

-- A set I of nodes is entered from the door d alone: an edge into I, or to a node with Out, comes from I or from the door. A path from elsewhere
-- into I then leads to the door and from there, after its last entry, on inside I.
module _ {E : ℕ → ℕ → Type 0} (I Door Out : ℕ → Type 0) {d : ℕ} (one : (x : ℕ) → Door x → x ≡ d)
    (back : (x y : ℕ) → E x y → I y ⊎ Out y → I x ⊎ Door x) where
  abbrev Entry : (ℕ → Type 0) → ℕ → ℕ → Type 0
  Entry P x y = (I x × Path E (Both P I) x y) ⊎ ((Door x ⊎ Path E P x d) × Path E (Both P I) d y)

  here : {P : ℕ → Type 0} {x y : ℕ} → I x ⊎ Door x → Path E (Both P I) x y → Entry P x y
  here (inl i) w = inl (i, w)
  here {P} {x} {y} (inr o) w = inr (inl o, subst (λ (n : ℕ). Path E (Both P I) n y) (one x o) w)

  before : {P : ℕ → Type 0} {x z : ℕ} → E x z → P z → Door z ⊎ Path E P z d → Path E P x d
  before {P} {x} {z} e p (inl o) = subst (λ (n : ℕ). Path E P x n) (one z o) (last e)
  before e p (inr w) = next e p w

  last_entry : {P : ℕ → Type 0} {x y : ℕ} → Path E P x y → I y ⊎ Out y → Entry P x y
  last_entry (last e) b = here (back _ _ e b) (last e)
  last_entry (next e p w) b = elim (last_entry w b) [
    | inl h ↦ here (back _ _ e (inl h.0)) (next e (p, h.0) h.1)
    | inr h ↦ inr (inr (before e p h.0), h.1)
  ]

  pub by-door : {P : ℕ → Type 0} {x y : ℕ} → ¬ (I x) → ¬ (Door x) → Path E P x y → I y ⊎ Out y → Path E P x d × Path E (Both P I) d y
  by-door n o w b = elim (last_entry w b) [ inl h ↦ absurd (n h.0) | inr h ↦ elim h.0 [ inl q ↦ absurd (o q) | inr v ↦ (v, h.1) ] ]

-- a path whose nodes have S stays one along other edges, where those that leave S are among these
pub carry-from : {E F : ℕ → ℕ → Type 0} {P Q : ℕ → Type 0} (S : ℕ → Type 0) → ((x y : ℕ) → S x → E x y → F x y) → ((z : ℕ) → P z → S z × Q z)
    → {x y : ℕ} → S x → Path E P x y → Path F Q x y
carry-from S f g s (last e) = last (f _ _ s e)
carry-from S f g s (next e p w) = let (a, q) = g _ p in next (f _ _ s e) q (carry-from S f g a w)

-- a path from elsewhere into a set with one door, along edges that leave the set and the door
module _ {E F : ℕ → ℕ → Type 0} (I Door Out : ℕ → Type 0) {d : ℕ} (one : (x : ℕ) → Door x → x ≡ d) (own : Door d)
    (back : (x y : ℕ) → E x y → I y ⊎ Out y → I x ⊎ Door x) (kept : (x y : ℕ) → I x ⊎ Door x → E x y → F x y) where
  pub inner-path : {x y : ℕ} → ¬ (I x) → ¬ (Door x) → Path E Any x y → I y ⊎ Out y → Path F Any d y
  inner-path n o w b = carry-from (λ z. I z ⊎ Door z) kept (λ z p. (inl p.1, tt)) (inr own) (by-door I Door Out one back n o w b).1
