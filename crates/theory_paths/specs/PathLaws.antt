-- Laws of paths: joined, carried over to another graph, and reversed, each with its number of edges; taken apart at their ends; and cut at the
-- last node that stops.
-- Assumes nothing.
use Rattle.std.specs.Prelude.{◌≡◌, ◌⊎◌}
use Rattle.std.proofs.Math.Path.{refl, ap}
use Rattle.std.proofs.Common.{◌∙◌, subst, inl, inr, arith}
use Prim.Native.Nat.{ℕ, suc, ◌+◌, ◌≤◌}
use Rattle.theory_paths.specs.Path.{Path, last, next, edges, Any}

pub edges_some : {E : ℕ → ℕ → Type 0} {P : ℕ → Type 0} {x y : ℕ} (w : Path E P x y) → 1 ≤ edges w
unfolding edges
edges_some (last e) = omega arith
edges_some (next e p w) = omega arith

-- one path after another, and so with `last` one edge more at the end
pub append : {E : ℕ → ℕ → Type 0} {P : ℕ → Type 0} {x y z : ℕ} → Path E P x y → P y → Path E P y z → Path E P x z
append (last e) p v = next e p v
append (next e q w) p v = next e q (append w p v)

pub edges-append : {E : ℕ → ℕ → Type 0} {P : ℕ → Type 0} {x y z : ℕ} (w : Path E P x y) (p : P y) (v : Path E P y z)
    → edges (append w p v) ≡ edges w + edges v
unfolding edges append
edges-append (last e) p v = omega arith
edges-append (next e q w) p v = omega (arith, edges-append w p v)

-- the last edge of a path
pub final : {E : ℕ → ℕ → Type 0} {P : ℕ → Type 0} {x y : ℕ} → Path E P x y → E x y ⊎ ((z : ℕ) × Path E P x z × P z × E z y)
final (last e) = inl e
final (next {z = z} e p w) = elim (final w) [ inl f ↦ inr (z, last e, p, f) | inr (v, u, q, f) ↦ inr (v, next e p u, q, f) ]

-- a path stays one along other edges and past other nodes, where these have what those have
module _ {E F : ℕ → ℕ → Type 0} {P Q : ℕ → Type 0} (f : (x y : ℕ) → E x y → F x y) (g : (z : ℕ) → P z → Q z) where
  pub carry : {x y : ℕ} → Path E P x y → Path F Q x y
  carry (last e) = last (f _ _ e)
  carry (next e p w) = next (f _ _ e) (g _ p) (carry w)

  pub edges-carry : {x y : ℕ} (w : Path E P x y) → edges (carry w) ≡ edges w
  unfolding edges carry
  edges-carry (last e) = refl
  edges-carry (next e p w) = ap suc (edges-carry w)

-- a path reversed is one of the graph with its edges turned round
pub reverse : {E : ℕ → ℕ → Type 0} {P : ℕ → Type 0} {x y : ℕ} → Path E P x y → Path (λ x y. E y x) P y x
reverse (last e) = last e
reverse (next e p w) = append (reverse w) p (last e)

pub edges-reverse : {E : ℕ → ℕ → Type 0} {P : ℕ → Type 0} {x y : ℕ} (w : Path E P x y) → edges (reverse w) ≡ edges w
unfolding edges reverse
edges-reverse (last e) = refl
edges-reverse (next e p w) = edges-append (reverse w) p (last e) ∙ omega (arith, edges-reverse w)

-- What is left of a path to y, from x on; P is asked of x too.
abbrev pub Rest : (ℕ → ℕ → Type 0) → (ℕ → Type 0) → ℕ → ℕ → Type 0
Rest E P x y = (x ≡ y) ⊎ (P x × Path E P x y)

module _ {E : ℕ → ℕ → Type 0} {P : ℕ → Type 0} where
  pub first_edge : {x y : ℕ} → Path E P x y → (v : ℕ) × E x v × Rest E P v y
  first_edge {y = y} (last e) = (y, e, inl refl)
  first_edge (next {z = z} e p w) = (z, e, inr (p, w))

  pub last-edge : {x y : ℕ} → Path E P x y → (v : ℕ) × E v y
  last-edge {x = x} (last e) = (x, e)
  last-edge (next e p w) = last-edge w

  pub extend : {x y z : ℕ} → (y ≡ x) ⊎ (P y × Path E P x y) → E y z → Path E P x z
  extend {z = z} (inl q) e = subst (λ (n : ℕ). Path E P n z) q (last e)
  extend (inr w) e = append w.1 w.0 (last e)

-- Let J have some nodes, and each node without P to which a path leads from one of J, past nodes with P. Then whatever a path leads to
-- from one of J, a path past nodes with P leads to from one of J: what is left of the path behind its last node without P.
module _ {E : ℕ → ℕ → Type 0} {P : ℕ → Type 0} (P? : (z : ℕ) → Dec (P z)) (J : ℕ → Type 0)
    (closed : (x z : ℕ) → J x → Path E P x z → (P z → ⊥) → J z) where
  pub record From (y : ℕ) : Type 0 where
    pub node : ℕ
    pub member : J node
    pub path : Path E P node y

  one_more : (x : ℕ) → From x → Dec (P x) → (y : ℕ) → E x y → From y
  one_more x f (yes p) y e = record { node = f.node; member = f.member; path = append f.path p (last e) }
  one_more x f (no p) y e = record { node = x; member = closed f.node x f.member f.path p; path = last e }

  along : {x y : ℕ} → ((z : ℕ) → E x z → From z) → Path E Any x y → From y
  along step (last e) = step _ e
  along step (next {z = z} e p w) = along (one_more z (step z e) (P? z)) w

  pub cut-last : {x y : ℕ} → J x → Path E Any x y → From y
  cut-last {x} j w = along (λ z e. record { node = x; member = j; path = last e }) w
