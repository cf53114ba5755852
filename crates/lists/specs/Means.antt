-- What a test stands for, put together from what its parts stand for.
-- Assumes nothing.
use Rattle.std.specs.Prelude.{◌≡◌, ◌⊎◌, ◌↔◌, Bool, true, ◌&&◌, ◌||◌, not, ℕ, ◌<◌, eqb}
use Rattle.std.proofs.Common.{inl, inr, eqb-true, eq-eqb}
use Rattle.std.proofs.lemmas.Bool.{not-true}
use Rattle.lists.specs.Truth.{clash, truth, false-if, and_both, both-and, or_cases, or_left, or_right}
use Rattle.lists.specs.Range.{any, any_at, at-any}

pub both_of : {s t : Bool} {P Q : Type 0} → (s ≡ true) ↔ P → (t ≡ true) ↔ Q → ((s && t) ≡ true) ↔ (P × Q)
both_of p q = ((λ h. let b = and_both _ _ h in (p.0 b.0, q.0 b.1)), λ h. both-and _ _ (p.1 h.0) (q.1 h.1))

pub either-of : {s t : Bool} {P Q : Type 0} → (s ≡ true) ↔ P → (t ≡ true) ↔ Q → ((s || t) ≡ true) ↔ (P ⊎ Q)
either-of {s} {t} p q = (
  (λ h. elim (or_cases s t h) [ inl g ↦ inl (p.0 g) | inr g ↦ inr (q.0 g) ]),
  λ h. elim h [ inl g ↦ or_left s t (p.1 g) | inr g ↦ or_right s t (q.1 g) ],
)

pub not-of : {t : Bool} {P : Type 0} → (t ≡ true) ↔ P → (not t ≡ true) ↔ (P → ⊥)
not-of p = ((λ h g. clash (p.1 g) (not-true _ h)), λ h. rw (false-if (λ g. h (p.0 g))))

-- what a test decides holds if it is not refuted
pub unless : (t : Bool) {P : Type 0} → (t ≡ true) ↔ P → ((P → ⊥) → ⊥) → P
unless t p f = elim (truth t) [ inl h ↦ p.0 h | inr h ↦ absurd (f (λ g. clash (p.1 g) h)) ]

pub some_of : (n : ℕ) (f : ℕ → Bool) (P : ℕ → Type 0) → ((k : ℕ) → (f k ≡ true) ↔ P k) → ((k : ℕ) → P k → k < n) → (any n f ≡ true) ↔ ((k : ℕ) × P k)
some_of n f P p below = ((λ h. let (k, l, g) = any_at n f h in (k, (p k).0 g)), λ h. at-any n f h.0 (below h.0 h.1) ((p h.0).1 h.1))

pub equal_of : (m n : ℕ) → (eqb m n ≡ true) ↔ (m ≡ n)
equal_of m n = (eqb-true m n, eq-eqb m n)
