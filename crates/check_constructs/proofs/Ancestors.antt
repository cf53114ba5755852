-- The walk over what stands above a construct: what it has shown when it has come to one, and what it shows at its end.
-- Assumes nothing.
use mathlib.Core.Path.{◌≡◌, refl, subst}
use mathlib.Core.Logic.{◌⊎◌, inl, inr, ◌≢◌}
use mathlib.Core.Bool.{Bool, true, false, cond}
use mathlib.Core.List.{List}
use Prim.Native.Nat.{ℕ, ◌+◌, ◌≤◌, ◌<◌}
use native.Mathlib.Omega.{arith}
use lib.Dec.{eqb}
use lib.ListN.{length}
use borrow.Author.Tests.{eq-eqb, ne_eqb}
use Rattle.lists.specs.Truth.{clash, false-if, and_both, both-and}
use Rattle.lists.specs.Range.{any, none_passes, at-any, any_none}
use Rattle.chart.specs.Format.{outside, Construct, construct_at}
use Rattle.chart.specs.Scope.{parent_of}
use Rattle.chart.specs.Nested.{is_parallel}
use Rattle.chart.specs.Nesting.{encloses_near, excluded, wrongly_above}
use Rattle.chart.specs.Refusal.{bad_alone}
use Rattle.chart.proofs.Tree.{Below, below_more, lower}
use Rattle.chart.proofs.Near.{at, on, near-computed, near-computes, near-encloses, near-open}
use Rattle.chart.proofs.NestingFacts.{ConstructFits, construct-fits}
use Rattle.check_constructs.specs.Kinds.{NearIn}

-- what the first m constructs have that are in order by themselves
module _ (cs : List Construct) (m : ℕ) (alone : any m (bad_alone cs) ≡ false) where
  pub fits : (k : ℕ) → k < m → let d = construct_at cs k in ConstructFits k d.kind d.parent d.name d.filter
  unfolding bad_alone
  fits k l = construct-fits k _ _ _ _ (none_passes m (bad_alone cs) alone k l)

  pub parents : (k : ℕ) → k < m → Below k (parent_of cs k)
  unfolding parent_of
  parents k l = (fits k l).parent-lower

-- k may not stand above c
abbrev pub against : List Construct → ℕ → ℕ → Bool
against cs c k = excluded (construct_at cs c).kind (construct_at cs c).name (construct_at cs k).kind (construct_at cs k).name

-- The walk upwards from the parent of c has come to p: what stands above c in its region and not at or above p may stand there.
pub record Walked (cs : List Construct) (c p : ℕ) : Type 0 where
  pub place : Below c p
  pub above : {k : ℕ} → NearIn cs p k → NearIn cs (parent_of cs c) k
  pub passed : (k : ℕ) → NearIn cs (parent_of cs c) k → NearIn cs p k ⊎ (against cs c k ≡ false)

pub near_step : (cs : List Construct) {p k : ℕ} → NearIn cs p k → (p ≡ k) ⊎ NearIn cs (parent_of cs p) k
near_step cs (at n s) = inl refl
near_step cs (on n s a) = inr a

pub near_none : (cs : List Construct) (c : ℕ) → ((k : ℕ) → NearIn cs (parent_of cs c) k → against cs c k ≡ true → ⊥) → any (length cs) (wrongly_above cs c) ≡ false
unfolding wrongly_above
near_none cs c f = any_none (length cs) (wrongly_above cs c) (λ k l. false-if (λ h.
    let b = and_both (encloses_near (parent_of cs) (is_parallel cs) (length cs) (parent_of cs c) k) (against cs c k) h in
    f k (near-computed (parent_of cs) (is_parallel cs) (length cs) (parent_of cs c) k b.0) b.1))

module _ (cs : List Construct) {c : ℕ} (alone : any (c + 1) (bad_alone cs) ≡ false) where
  parent-below : (k : ℕ) → k ≤ c → Below k (parent_of cs k)
  parent-below k l = parents cs (c + 1) alone k (omega arith)

  pub walk_start : Walked cs c (parent_of cs c)
  walk_start = record { place = parent-below c (omega arith); above = λ a. a; passed = λ k a. inl a }

  pub place-below : {p : ℕ} → Walked cs c p → p ≢ outside → p < c
  place-below w n = elim w.place [ inl q ↦ absurd (n q) | inr l ↦ l ]

  pub walk_more : {p : ℕ} → Walked cs c p → p ≢ outside → is_parallel cs p ≡ false → against cs c p ≡ false → Walked cs c (parent_of cs p)
  walk_more {p} w n s f = record {
    place = below_more (omega (arith, place-below w n)) (parent-below p (omega (arith, place-below w n)));
    above = λ a. w.above (on n s a);
    passed = λ k a. elim (w.passed k a) [
      | inl b ↦ elim (near_step cs b) [ inl q ↦ inr (subst (λ (k : ℕ). against cs c k ≡ false) q f) | inr d ↦ inl d ]
      | inr g ↦ inr g
    ];
  }

  -- what stands above c in its region is a construct below c
  pub near-below : {k : ℕ} → NearIn cs (parent_of cs c) k → k < c
  near-below a = lower (parent_of cs) c (λ k h. parent-below k (omega arith)) (near-encloses a) c (omega arith) (parent-below c (omega arith))

  pub near-found : {k : ℕ} → c < length cs → NearIn cs (parent_of cs c) k → against cs c k ≡ true → any (length cs) (wrongly_above cs c) ≡ true
  unfolding wrongly_above
  near-found {k} l a f =
      let e = near-computes (parent_of cs) (is_parallel cs) c (λ k h. parent-below k (omega arith)) a (length cs) c (omega arith) (omega arith) (parent-below c (omega arith)) in
      at-any (length cs) (wrongly_above cs c) k (omega (arith, near-below a)) (both-and _ (against cs c k) e f)

  pub walk-found : {p : ℕ} → c < length cs → Walked cs c p → p ≢ outside → is_parallel cs p ≡ false → against cs c p ≡ true
      → any (length cs) (wrongly_above cs c) ≡ true
  walk-found l w n s f = near-found l (w.above (at n s)) f

  -- at the edge of the region, or of the chart, nothing more is near
  pub walk_end : {p : ℕ} → Walked cs c p → (p ≡ outside) ⊎ (is_parallel cs p ≡ true) → any (length cs) (wrongly_above cs c) ≡ false
  walk_end w q = near_none cs c (λ k h f. elim (w.passed k h) [
    | inl a ↦ elim q [ inl z ↦ (near-open a).0 z | inr z ↦ clash z (near-open a).1 ]
    | inr g ↦ clash f g
  ])

-- how many levels stand above p at most: parents are lower
abbrev pub height : ℕ → ℕ
height p = cond (eqb p outside) 0 (p + 1)

pub height-falls : {p q : ℕ} → p ≢ outside → Below p q → height q < height p
height-falls {p} {q} n (inl z) = rw (ne_eqb p outside n, eq-eqb q outside z) (omega arith)
height-falls {p} {q} n (inr l) = rw (ne_eqb p outside n) (go (eqb q outside))
  where
    go : (b : Bool) → cond b 0 (q + 1) < p + 1
    go true = omega arith
    go false = omega arith
