-- With locks, no two threads of a team are inside criticals of one name together. Where only some criticals lock, this holds of those that do.
-- Assumes nothing.
use Rattle.std.specs.Prelude.{◌≡◌, ◌≢◌, Bool, true, ℕ, ◌<◌}
use Rattle.std.proofs.Common.{ap, sym, ◌∙◌, subst, inl, inr}
use Rattle.std.proofs.Math.Decide.{ℕ_discrete}
use Rattle.chart.specs.Region.{Region}
use Rattle.chart.specs.WellFormed.{WellFormed}
use Rattle.theory_paths.specs.Connected.{Connected}
use Rattle.theory_team.specs.State.{State, initial}
use Rattle.theory_team.specs.Step.{ThreadStep, Step, one, release}
use Rattle.theory_team.specs.Run.{Run, StateOf, now, later}
use Rattle.theory_team.specs.Locks.{InCritical, LockedIn}
use Rattle.theory_team.specs.SomeLocks.{InLocking, KeepsSome, LockedSome}
use Rattle.theory_team.proofs.SomeLocksLaws.{all_in, all-locked}
use Rattle.theory_team.proofs.Laws.{arrives, node_kept, released-at}
use Rattle.theory_exact.specs.Constructs.{inside-open}
use Rattle.theory_exact.specs.Hops.{Reenters, hop, came_from, released-outside}

-- Two different threads are not inside criticals of one name that lock.
abbrev pub Excluded : Region → (ℕ → Bool) → ℕ → State → Type 0
Excluded R locks m σ =
    (i j name : ℕ) → i < m → j < m → i ≢ j → InLocking R locks (σ.node i) name → InLocking R locks (σ.node j) name → ⊥

module _ {R : Region} (W : WellFormed R) (C : Connected R) (locks : ℕ → Bool) {m : ℕ} where
  -- the thread that steps, against another
  module _ {σ τ : State} {t v : ℕ} (l : t < m) (S : ThreadStep R m σ t v τ) (K : KeepsSome locks (one l S)) (E : Excluded R locks m σ) where
    against : (k name : ℕ) → k < m → k ≢ t → InLocking R locks v name → InLocking R locks (σ.node k) name → ⊥
    against k name j n a b = elim (came_from W (hop W C S) (inl a.within)) [
      | inl i ↦ E t k name l j (λ z. n (sym z))
          (record { construct = a.construct; is-critical = a.is-critical; is-locking = a.is-locking; of-name = a.of-name; within = i }) b
      | inr (inl w) ↦ K a.construct w a.is-critical a.is-locking k j n (subst (InLocking R locks (σ.node k)) (sym a.of-name) b)
      | inr (inr h) ↦ subst Reenters a.is-critical h.1
    ]

    one-excluded : Excluded R locks m τ
    one-excluded i j name li lj n a b = go (ℕ_discrete i t) (ℕ_discrete j t)
      where
        own : {k : ℕ} → k ≡ t → InLocking R locks (τ.node k) name → InLocking R locks v name
        own q z = subst (λ (x : ℕ). InLocking R locks x name) (ap τ.node q ∙ arrives S) z

        other : {k : ℕ} → k ≢ t → InLocking R locks (τ.node k) name → InLocking R locks (σ.node k) name
        other {k} d z = subst (λ (x : ℕ). InLocking R locks x name) (node_kept S k d) z

        go : Dec (i ≡ t) → Dec (j ≡ t) → ⊥
        go (yes p) (yes q) = n (p ∙ sym q)
        go (yes p) (no d) = against j name lj d (own p a) (other d b)
        go (no d) (yes q) = against i name li d (own q b) (other d a)
        go (no d) (no e) = E i j name li lj n (other d a) (other e b)

  step-excluded : {σ τ : State} (s : Step R m σ τ) → KeepsSome locks s → Excluded R locks m σ → Excluded R locks m τ
  step-excluded (one l S) K E = one-excluded l S K E
  step-excluded {σ} (release b to h n all edges) K E = λ i j name li lj d x y. released-outside W h
      (subst (λ (z : ℕ). R.edge b z ≡ true) (sym (released-at m σ to i li)) (edges i li)) (inl x.within)

  -- in every state of a run that keeps the locks
  in-run : {σ τ μ : State} {r : Run R m σ τ} → StateOf R m σ τ r μ → LockedSome locks r → Excluded R locks m σ → Excluded R locks m μ
  in-run now K E = E
  in-run (later {s = s} h) K E = in-run h K.1 (step-excluded s K.0 E)

  first-excluded : Excluded R locks m (initial R)
  unfolding initial
  first-excluded i j name li lj n a b = inside-open W a.within W.start-barrier

  pub some-excluded : {τ μ : State} {r : Run R m (initial R) τ} → StateOf R m (initial R) τ r μ → LockedSome locks r → Excluded R locks m μ
  some-excluded h K = in-run h K first-excluded

module _ {R : Region} (W : WellFormed R) (C : Connected R) {m : ℕ} where
  -- Nodes inside criticals of a common name are not concurrent under the rules with locks.
  pub synchronized : {a b name : ℕ} → InCritical R a name → InCritical R b name → LockedIn R m a b → ⊥
  synchronized {name = name} x y M = let N = M.concurrent in
      some-excluded W C (λ c. true) N.passed ((all-locked N.run).1 M.locked) N.t N.u name N.t-in N.u-in N.differ
      (all_in.1 (subst (λ (z : ℕ). InCritical R z name) (sym N.at_a) x)) (all_in.1 (subst (λ (z : ℕ). InCritical R z name) (sym N.at_b) y))
