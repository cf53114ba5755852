-- Around a construct that returns: a thread at its begin passes it and comes back, until no thread has left its begin more often.
-- Assumes nothing.
use Rattle.std.specs.Prelude.{◌≡◌, refl, false, ℕ, zero, suc, ◌+◌, ◌≤◌, ◌<◌}
use Rattle.std.proofs.Common.{ap, sym, ◌∙◌, subst, inl, inr, arith}
use Rattle.std.proofs.Math.Decide.{ℕ_discrete}
use Rattle.lists.specs.Truth.{bad, clash}
use Rattle.chart.specs.Region.{opens, Kind, single, master, critical, loop, ordered, sections, section, parallel, Outermost, Region}
use Rattle.chart.specs.WellFormed.{WellFormed}
use Rattle.theory_paths.specs.Path.{Open}
use Rattle.theory_paths.specs.Connected.{Connected}
use Rattle.theory_team.specs.State.{State, left}
use Rattle.theory_team.specs.Step.{First, NotFirst, MayPass, ThreadStep, pass}
use Rattle.theory_team.proofs.Laws.{arrives}
use Rattle.theory_answers.specs.Unexcluded.{Returns}
use Rattle.theory_exact.specs.Hops.{end-top}
use Rattle.theory_exact.specs.Invariant.{rises}
use Rattle.theory_exact.specs.Solo.{Solo, stay, then, alone_at}
use Rattle.theory_exact.specs.Sections.{to_end}
use Rattle.theory_exact.specs.Walk.{first-or-not, ready-outside, walk}

-- the first n values of f have a bound
bounded : (n : ℕ) (f : ℕ → ℕ) → (b : ℕ) × ((k : ℕ) → k < n → f k ≤ b)
bounded zero f = (0, λ k l. absurd (none l))
  where
    none : {k : ℕ} → k < 0 → ⊥
    none l = omega arith
bounded (suc n) f = let B = bounded n f in (B.0 + f n, λ k l. go B.1 k l (ℕ_discrete k n))
  where
    go : {b : ℕ} → ((k : ℕ) → k < n → f k ≤ b) → (k : ℕ) → k < suc n → Dec (k ≡ n) → f k ≤ b + f n
    go {b} h k l (yes q) = subst (λ (j : ℕ). f j ≤ b + f n) (sym q) (omega arith)
    go h k l (no q) = omega (arith, h k (omega arith))

module _ {R : Region} (W : WellFormed R) (C : Connected R) {m t : ℕ} (t-in : t < m)
    {c : ℕ} (o : R.role (R.begin c) ≡ opens c) (u : Outermost (R.kind c)) (ret : Returns R c) where
  -- another instance of c, from its begin to its end
  abbrev Through : State → Type 0
  Through σ = (τ : State) × Solo R (Open R) m t σ τ × (τ.node t ≡ R.end c) × (σ.encounters t c < τ.encounters t c)

  module _ (σ : State) (w : R.role (σ.node t) ≡ opens c) where
    straight : (k : Kind) → R.kind c ≡ k → MayPass R m σ t c k → Through σ
    straight k q g =
        let S : ThreadStep R m σ t (R.end c) (left σ t c (R.end c)) = pass w (subst (MayPass R m σ t c) (sym q) g) refl in
        (left σ t c (R.end c), alone_at W t-in S (λ z. bad (cc)), arrives S, omega (arith, rises S w))

    once-through : (k : Kind) → R.kind c ≡ k → Outermost k → NotFirst m σ t c → Through σ
    once-through single q h n = straight single q n
    once-through master q h n = absurd h
    once-through critical q h n = absurd h
    once-through loop q h n = straight loop q tt
    once-through ordered q h n = absurd h
    once-through sections q h n = to_end W C t-in q σ w (λ z. bad (cc))
    once-through section q h n = absurd h
    once-through parallel q h n = absurd h

  once-round : (σ : State) → σ.node t ≡ R.begin c → NotFirst m σ t c
      → (τ : State) × Solo R (Open R) m t σ τ × (τ.node t ≡ R.begin c) × (σ.encounters t c < τ.encounters t c)
  once-round σ h n =
      let A = once-through σ (ap R.role h ∙ o) (R.kind c) refl u n in
      let out : (d : ℕ) → R.inside (A.0.node t) d ≡ false = λ d. ap (λ (x : ℕ). R.inside x d) A.2 ∙ (end-top W o u d).0 in
      let B = walk W C t-in (λ z p. p) ret (λ q. bad (cc (W.opens-ended o))) A.0
      (ready-outside W (λ d i. clash i (W.outermost o u d)) (λ d i. absurd (clash i (out d)))) (inl A.2) in
      (B.0, then A.1 B.1, B.2, omega (arith, A.3, B.1.grow c))

  rounds : (n : ℕ) (σ : State) → σ.node t ≡ R.begin c → ((k : ℕ) → k < m → σ.encounters k c ≤ n + σ.encounters t c)
      → (τ : State) × Solo R (Open R) m t σ τ × (τ.node t ≡ R.begin c) × First m τ t c
  rounds zero σ h f = (σ, stay, h, λ k l. omega (arith, f k l))
  rounds (suc n) σ h f = elim (first-or-not m σ t c) [
    | inl l ↦ (σ, stay, h, l)
    | inr x ↦ (
        let Q = once-round σ h x in
        let D = rounds n Q.0 Q.2 (λ k l. elim (ℕ_discrete k t) [
          | yes e ↦ subst (λ (j : ℕ). Q.0.encounters j c ≤ n + Q.0.encounters t c) (sym e) (omega arith)
          | no e ↦ omega (arith, f k l, Q.1.count_same k e c, Q.3)
        ]) in
        (D.0, then Q.1 D.1, D.2, D.3)
        )
  ]

  pub come-first : (σ : State) → σ.node t ≡ R.begin c → (τ : State) × Solo R (Open R) m t σ τ × (τ.node t ≡ R.begin c) × First m τ t c
  come-first σ h = let B = bounded m (λ k. σ.encounters k c) in rounds B.0 σ h (λ k l. omega (arith, B.1 k l))
