-- The region that a place lies in, and what stands above a place within one region.
-- Assumes nothing.
use mathlib.Core.Path.{◌≡◌, refl, sym, ◌∙◌, subst}
use mathlib.Core.Logic.{◌⊎◌, inl, inr, ◌≢◌}
use mathlib.Core.Bool.{Bool, true, false, ◌&&◌, ◌||◌, not, cond}
use Prim.Native.Nat.{ℕ, zero, suc, ◌≤◌, ◌<◌}
use native.Mathlib.Omega.{arith}
use native.Mathlib.Decide.{ℕ_discrete}
use lib.Dec.{eqb}
use borrow.Author.Tests.{eqb-true, eqb-false, eq-eqb, ne_eqb, not-true}
use Rattle.lists.specs.Truth.{bad, truth, and_both, or_cases, or_left, or_right}
use Rattle.chart.specs.Format.{outside}
use Rattle.chart.specs.Scope.{Encloses, here, up}
use Rattle.chart.specs.Nested.{region_at}
use Rattle.chart.specs.Nesting.{encloses_near}
use Rattle.chart.proofs.Tree.{Below, below_more, below-here, lower}

-- k is p or stands above it, and neither k nor anything from p up to it is shut
pub data Near (parent : ℕ → ℕ) (shut : ℕ → Bool) : ℕ → ℕ → Type 0 where
  at : {c : ℕ} → c ≢ outside → shut c ≡ false → Near parent shut c c
  on : {p c : ℕ} → p ≢ outside → shut p ≡ false → Near parent shut (parent p) c → Near parent shut p c

module _ (parent : ℕ → ℕ) (shut : ℕ → Bool) where
  region-none : (fuel : ℕ) {p : ℕ} → p ≡ outside → region_at parent shut fuel p ≡ outside
  unfolding region_at
  region-none zero q = refl
  region-none (suc fuel) {p} q = rw (eq-eqb p outside q) q

  region-shut : (fuel : ℕ) {p : ℕ} → shut p ≡ true → region_at parent shut (suc fuel) p ≡ p
  unfolding region_at
  region-shut fuel {p} h = go (eqb p outside)
    where
      go : (b : Bool) → cond (b || shut p) p (region_at parent shut fuel (parent p)) ≡ p
      go true = refl
      go false = rw h

  region-open : (fuel : ℕ) {p : ℕ} → p ≢ outside → shut p ≡ false → region_at parent shut (suc fuel) p ≡ region_at parent shut fuel (parent p)
  unfolding region_at
  region-open fuel {p} n h = rw (ne_eqb p outside n, h)

  region-zero : (p : ℕ) → region_at parent shut 0 p ≡ outside
  unfolding region_at
  region-zero p = refl

  -- the region is a shut place at or above p
  pub region-above : (fuel p : ℕ) → region_at parent shut fuel p ≢ outside → Encloses parent p (region_at parent shut fuel p)
  region-above zero p n = absurd (n (region-zero p))
  region-above (suc fuel) p n = go (ℕ_discrete p outside) (truth (shut p)) (region-above fuel (parent p))
    where
      go : Dec (p ≡ outside) → (shut p ≡ true) ⊎ (shut p ≡ false) → (region_at parent shut fuel (parent p) ≢ outside → Encloses parent (parent p) (region_at parent shut fuel (parent p)))
          → Encloses parent p (region_at parent shut (suc fuel) p)
      go (yes q) h r = absurd (n (region-none (suc fuel) q))
      go (no q) (inl h) r = subst (Encloses parent p) (sym (region-shut fuel h)) (here q)
      go (no q) (inr h) r = let e = region-open fuel q h in subst (Encloses parent p) (sym e) (up q (r (λ z. n (e ∙ z))))

  module _ (size : ℕ) (low : (k : ℕ) → k < size → Below k (parent k)) where
    -- levels that are enough find the same
    outside_of : {p : ℕ} → Below 0 p → p ≡ outside
    outside_of (inl q) = q
    outside_of (inr l) = absurd (omega arith)

    parent-below : (f p : ℕ) → suc f ≤ size → Below (suc f) p → p ≢ outside → Below f (parent p)
    parent-below f p l b n = let a = below-here n b in below_more (omega arith) (low p (omega arith))

    same : (f g p : ℕ) → f ≤ size → g ≤ size → Below f p → Below g p → region_at parent shut f p ≡ region_at parent shut g p
    same zero g p l m a b = region-none 0 (outside_of a) ∙ sym (region-none g (outside_of a))
    same (suc f) g p l m a b = go g m b (ℕ_discrete p outside) (truth (shut p)) (λ g. same f g (parent p))
      where
        go : (g : ℕ) → g ≤ size → Below g p → Dec (p ≡ outside) → (shut p ≡ true) ⊎ (shut p ≡ false)
            → ((g : ℕ) → f ≤ size → g ≤ size → Below f (parent p) → Below g (parent p) → region_at parent shut f (parent p) ≡ region_at parent shut g (parent p))
            → region_at parent shut (suc f) p ≡ region_at parent shut g p
        go g m b (yes q) h r = region-none (suc f) q ∙ sym (region-none g q)
        go zero m b (no q) h r = absurd (q (outside_of b))
        go (suc g) m b (no q) (inl h) r = region-shut f h ∙ sym (region-shut g h)
        go (suc g) m b (no q) (inr h) r = region-open f q h ∙ r g (omega arith) (omega arith) (parent-below f p l a q) (parent-below g p m b q) ∙ sym (region-open g q h)

    -- one level up
    pub region-at-shut : (k : ℕ) → k < size → shut k ≡ true → region_at parent shut size k ≡ k
    region-at-shut k l h = go size l
      where
        go : (s : ℕ) → k < s → region_at parent shut s k ≡ k
        go zero m = absurd (omega arith)
        go (suc s) m = region-shut s h

    pub region-up : (k : ℕ) → k < size → k ≢ outside → shut k ≡ false → region_at parent shut size k ≡ region_at parent shut size (parent k)
    region-up k l n h = go size (omega arith) l
      where
        go : (s : ℕ) → s ≤ size → k < s → region_at parent shut s k ≡ region_at parent shut size (parent k)
        go zero m j = absurd (omega arith)
        go (suc s) m j = region-open s n h ∙ sym (same size s (parent k) (omega arith) (omega arith) (below_more (omega arith) (low k l)) (below_more (omega arith) (low k l)))

    pub region-step : (p : ℕ) → Below size p → region_at parent shut size p ≡ cond (eqb p outside || shut p) p (region_at parent shut size (parent p))
    region-step p b = go (ℕ_discrete p outside) (truth (shut p))
      where
        go : Dec (p ≡ outside) → (shut p ≡ true) ⊎ (shut p ≡ false)
            → region_at parent shut size p ≡ cond (eqb p outside || shut p) p (region_at parent shut size (parent p))
        go (yes q) h = rw (eq-eqb p outside q) (region-none size q ∙ sym q)
        go (no n) (inl h) = rw (ne_eqb p outside n, h) (region-at-shut p (below-here n b) h)
        go (no n) (inr h) = rw (ne_eqb p outside n, h) (region-up p (below-here n b) n h)

    -- of two places one above the other in one region, nothing shut is in between
    pub nearby : {p k : ℕ} → Encloses parent p k → Below size p → shut k ≡ false → region_at parent shut size p ≡ region_at parent shut size (parent k) → Near parent shut p k
    nearby (here n) b h z = at n h
    nearby (up {p} {c = k} n e) (inl q) h z = absurd (n q)
    nearby (up {p} {c = k} n e) (inr l) h z = go (truth (shut p)) (nearby e (below_more (omega arith) (low p l)) h)
      where
        kp : k < p
        kp = lower parent size low e p (omega arith) (low p l)

        go : (shut p ≡ true) ⊎ (shut p ≡ false) → (region_at parent shut size (parent p) ≡ region_at parent shut size (parent k) → Near parent shut (parent p) k) → Near parent shut p k
        go (inl s) r =
            let q : region_at parent shut size (parent k) ≡ p = sym z ∙ region-at-shut p l s in
            let pk = lower parent size low (subst (Encloses parent (parent k)) q (region-above size (parent k) (λ o. n (sym q ∙ o)))) k (omega (arith, kp)) (low k (omega (arith, kp))) in
            absurd (omega (arith, kp, pk))
        go (inr s) r = on n s (r (sym (region-up p l n s) ∙ z))

-- the walk that stops at what is shut computes what is near
pub near-computed : (parent : ℕ → ℕ) (shut : ℕ → Bool) (fuel p k : ℕ) → encloses_near parent shut fuel p k ≡ true → Near parent shut p k
unfolding encloses_near
near-computed parent shut zero p k h = absurd (bad (cc))
near-computed parent shut (suc fuel) p k h =
    let b = and_both (not (eqb p outside) && not (shut p)) (eqb p k || encloses_near parent shut fuel (parent p) k) h in
    let a = and_both (not (eqb p outside)) (not (shut p)) b.0 in
    let n : p ≢ outside = eqb-false p outside (not-true (eqb p outside) a.0) in
    let s : shut p ≡ false = not-true (shut p) a.1 in
    elim (or_cases (eqb p k) (encloses_near parent shut fuel (parent p) k) b.1) [
      | inl g ↦ subst (λ (j : ℕ). Near parent shut p j) (eqb-true p k g) (at n s)
      | inr g ↦ on n s (near-computed parent shut fuel (parent p) k g)
    ]

pub near-encloses : {parent : ℕ → ℕ} {shut : ℕ → Bool} {p k : ℕ} → Near parent shut p k → Encloses parent p k
near-encloses (at n s) = here n
near-encloses (on n s a) = up n (near-encloses a)

-- where something is near, the walk goes on
pub near-open : {parent : ℕ → ℕ} {shut : ℕ → Bool} {p k : ℕ} → Near parent shut p k → (p ≢ outside) × (shut p ≡ false)
near-open (at n s) = (n, s)
near-open (on n s a) = (n, s)

module _ (parent : ℕ → ℕ) (shut : ℕ → Bool) (size : ℕ) (low : (k : ℕ) → k < size → Below k (parent k)) where
  near-level : (fuel p k : ℕ) → p ≢ outside → shut p ≡ false → (eqb p k || encloses_near parent shut fuel (parent p) k) ≡ true → encloses_near parent shut (suc fuel) p k ≡ true
  unfolding encloses_near
  near-level fuel p k n s h = rw (ne_eqb p outside n, s) h

  -- `bound` levels are enough, and more do no harm
  pub near-computes : {p k : ℕ} → Near parent shut p k → (fuel bound : ℕ) → bound ≤ fuel → bound ≤ size → Below bound p → encloses_near parent shut fuel p k ≡ true
  near-computes (at n s) zero bound f g b = absurd (omega (arith, below-here n b))
  near-computes (at {c} n s) (suc fuel) bound f g b = near-level fuel c c n s (or_left (eqb c c) (encloses_near parent shut fuel (parent c) c) (eq-eqb c c refl))
  near-computes (on n s a) zero bound f g b = absurd (omega (arith, below-here n b))
  near-computes (on {p} {c} n s a) (suc fuel) bound f g b =
      let l = below-here n b in
      near-level fuel p c n s (or_right (eqb p c) (encloses_near parent shut fuel (parent p) c) (near-computes a fuel p (omega arith) (omega arith) (low p (omega arith))))
