-- The pairs of the team that have met, by those of each thread: all of them, and after a step those of the thread that stepped.
-- Assumes nothing.
use mathlib.Core.Path.{◌≡◌, refl, sym, ◌∙◌, subst}
use mathlib.Core.Logic.{◌⊎◌, inl, inr, ◌≢◌, ◌↔◌}
use mathlib.Core.Bool.{Bool, true, false, ◌||◌}
use Prim.Native.Nat.{ℕ, ◌+◌, ◌-◌, ◌≤◌, ◌<◌}
use native.Mathlib.Omega.{arith}
use native.Mathlib.Decide.{ℕ_discrete, dec_lt}
use borrow.Author.Tests.{eq-eqb, lt-ltb, le-ltb}
use Rattle.lists.specs.Truth.{same_truth, or_left, or_right, or_cases}
use Rattle.lists.specs.Means.{both_of, either-of, not-of, equal_of}
use Rattle.lists.specs.Range.{any, any_at, at-any}
use Rattle.theory_team.specs.State.{State, moved, left, took}
use Rattle.theory_team.proofs.Laws.{update-off}
use Rattle.theory_traces.specs.Decide.{apply}
use Rattle.theory_traces.specs.Legal.{Together}
use Rattle.theory_traces.specs.Replay.{together}
use Rattle.theory_traces.proofs.ReplayLaws.{together-of}
use Rattle.theory_traces.specs.declared.Effect.{Effect}
use Rattle.theory_traces.specs.declared.Effect.TheVariants.{None, Moves, Leaves, Takes, TakesNext}
use Rattle.call_replay.specs.PairsMet.{meet, meets, next_thread}

meet-of : (σ : State) (t k a b : ℕ) → (meet σ t k a b ≡ true) ↔ ((t ≢ k) × (((σ.node t ≡ a) × (σ.node k ≡ b)) ⊎ ((σ.node k ≡ a) × (σ.node t ≡ b))))
meet-of σ t k a b =
    both_of (not-of (equal_of t k)) (either-of (both_of (equal_of (σ.node t) a) (equal_of (σ.node k) b)) (both_of (equal_of (σ.node k) a) (equal_of (σ.node t) b)))

module _ (m : ℕ) (σ : State) (a b : ℕ) where
  -- what two threads of the team meet
  meet-together : (t k : ℕ) → t < m → k < m → meet σ t k a b ≡ true → together m σ a b ≡ true
  meet-together t k lt lk h = (together-of m σ a b).1 (go ((meet-of σ t k a b).0 h))
    where
      go : (t ≢ k) × (((σ.node t ≡ a) × (σ.node k ≡ b)) ⊎ ((σ.node k ≡ a) × (σ.node t ≡ b))) → Together m σ a b
      go (d, inl p) = (t, lt, (k, lk, (d, p)))
      go (d, inr p) = (k, lk, (t, lt, ((λ e. d (sym e)), p)))

  -- all threads, each with those before it
  pub all_meet : any m (λ t. meets t σ t a b) ≡ together m σ a b
  all_meet = same_truth _ _
      (λ h. let (t, lt, g) = any_at m _ h in let (k, lk, p) = any_at t _ g in meet-together t k lt (omega arith) p)
      (λ h. let (t, lt, (k, lk, (d, (p, q)))) = (together-of m σ a b).0 h in go t k lt lk d p q (dec_lt k t))
    where
      go : (t k : ℕ) → t < m → k < m → t ≢ k → σ.node t ≡ a → σ.node k ≡ b → Dec (k < t) → any m (λ t. meets t σ t a b) ≡ true
      go t k lt lk d p q (yes l) = at-any m _ t lt (at-any t _ k l ((meet-of σ t k a b).1 (d, inl (p, q))))
      go t k lt lk d p q (no l) = at-any m _ k lk (at-any k _ t (before d l) ((meet-of σ k t a b).1 ((λ e. d (sym e)), inr (p, q))))
        where
          before : t ≢ k → (k < t → ⊥) → t < k
          before d l = elim (dec_lt t k) [ yes g ↦ g | no g ↦ absurd (let e : t ≡ k = omega arith in d e) ]

-- the threads after t, round the team, are the others
module _ (m t : ℕ) (in-team : t < m) where
  next_up : (k : ℕ) → t + k < m → next_thread m t k ≡ t + k
  next_up k l = rw (lt-ltb (t + k) m l)

  next-round : (k : ℕ) → m ≤ t + k → next_thread m t k ≡ t + k - m
  next-round k l = rw (le-ltb (t + k) m l)

  pub next-below : (k : ℕ) → k < m → next_thread m t k < m
  next-below k l = elim (dec_lt (t + k) m) [ yes h ↦ rw (next_up k h) h | no h ↦ rw (next-round k (omega arith)) (omega arith) ]

  pub next-other : (k : ℕ) → 0 < k → k < m → t ≢ next_thread m t k
  next-other k p l = elim (dec_lt (t + k) m) [ yes h ↦ (λ e. omega (arith, next_up k h)) | no h ↦ (λ e. omega (arith, next-round k (omega arith))) ]

  next-none : next_thread m t 0 ≡ t
  next-none = let l : t + 0 < m = omega arith in next_up 0 l ∙ (let e : t + 0 ≡ t = omega arith in e)

  module _ (σ : State) (a b : ℕ) where
    -- t itself meets nobody
    pub round-first : any 1 (λ k. meet σ t (next_thread m t k) a b) ≡ false
    unfolding any
    round-first = rw (next-none, eq-eqb t t refl)

    pub round-all : any m (λ k. meet σ t (next_thread m t k) a b) ≡ meets m σ t a b
    round-all = same_truth _ _
        (λ h. let (k, l, g) = any_at m _ h in at-any m _ (next_thread m t k) (next-below k l) g)
        (λ h. let (j, l, g) = any_at m _ h in back j l g (dec_lt j t))
      where
        back : (j : ℕ) → j < m → meet σ t j a b ≡ true → Dec (j < t) → any m (λ k. meet σ t (next_thread m t k) a b) ≡ true
        back j l g (yes h) =
            let e : next_thread m t (j + m - t) ≡ j = next-round (j + m - t) (omega arith) ∙ (let q : t + (j + m - t) - m ≡ j = omega arith in q) in
            at-any m _ (j + m - t) (omega arith) (subst (λ (i : ℕ). meet σ t i a b ≡ true) (sym e) g)
        back j l g (no h) =
            let e : next_thread m t (j - t) ≡ j = next_up (j - t) (omega arith) ∙ (let q : t + (j - t) ≡ j = omega arith in q) in
            at-any m _ (j - t) (omega arith) (subst (λ (i : ℕ). meet σ t i a b ≡ true) (sym e) g)

-- a step moves one thread
pub apply-others : (σ : State) (t v : ℕ) (e : Effect) (k : ℕ) → k ≢ t → (apply σ t v e).node k ≡ σ.node k
unfolding apply moved left took
apply-others σ t v None k d = refl
apply-others σ t v Moves k d = update-off σ.node t v k d
apply-others σ t v (Leaves c) k d = update-off σ.node t v k d
apply-others σ t v (Takes c x) k d = update-off σ.node t v k d
apply-others σ t v (TakesNext c x) k d = update-off σ.node t v k d

-- what had met before it is marked, and so what the thread meets is all there is to mark
pub stepped-meet : (m t : ℕ) (σ τ : State) (met : ℕ → ℕ → Bool) → t < m → ((k : ℕ) → k ≢ t → τ.node k ≡ σ.node k) → ((a b : ℕ) → Together m σ a b → met a b ≡ true)
    → (a b : ℕ) → (met a b || meets m τ t a b) ≡ (met a b || together m τ a b)
stepped-meet m t σ τ met lt same own a b = same_truth _ _
    (λ h. elim (or_cases (met a b) _ h) [
      | inl g ↦ or_left (met a b) _ g
      | inr g ↦ let (k, lk, p) = any_at m _ g in or_right (met a b) _ (meet-together m τ a b t k lt lk p)
    ])
    (λ h. elim (or_cases (met a b) _ h) [
      | inl g ↦ or_left (met a b) _ g
      | inr g ↦ let (i, li, (j, lj, (d, (p, q)))) = (together-of m τ a b).0 g in go i j li lj d p q (ℕ_discrete i t) (ℕ_discrete j t)
    ])
  where
    go : (i j : ℕ) → i < m → j < m → i ≢ j → τ.node i ≡ a → τ.node j ≡ b → Dec (i ≡ t) → Dec (j ≡ t) → (met a b || meets m τ t a b) ≡ true
    go i j li lj d p q (yes e) f = or_right (met a b) _ (at-any m _ j lj ((meet-of τ t j a b).1 ((λ u. d (e ∙ u)), inl (rw e at p, q))))
    go i j li lj d p q (no e) (yes f) = or_right (met a b) _ (at-any m _ i li ((meet-of τ t i a b).1 ((λ u. e (sym u)), inr (p, rw f at q))))
    go i j li lj d p q (no e) (no f) = or_left (met a b) _ (own a b (i, li, (j, lj, (d, (sym (same i e) ∙ p, sym (same j f) ∙ q)))))
