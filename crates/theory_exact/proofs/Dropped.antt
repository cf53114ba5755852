-- Locks that can be dropped, all at once: if every critical that does not lock is droppable, the locks that are left are enough, in finished runs; and
-- in every run, where no pair needs "no common end".
-- Assumes nothing.
use Rattle.std.specs.Prelude.{◌≡◌, refl, ◌⊎◌, ◌≢◌, Bool, true, false, ℕ, ◌<◌}
use Rattle.std.proofs.Common.{sym, ◌∙◌, inl, inr}
use Rattle.std.proofs.Math.Path.{subst}
use Rattle.lists.specs.Truth.{truth}
use Rattle.chart.specs.Region.{Region}
use Rattle.chart.specs.WellFormed.{WellFormed}
use Rattle.theory_paths.specs.Path.{Open}
use Rattle.theory_paths.specs.Connected.{Connected}
use Rattle.theory_team.specs.State.{State, initial}
use Rattle.theory_team.specs.Run.{Run, StateOf, ConcurrentIn}
use Rattle.theory_team.specs.Meets.{Meets, meets-concurrent}
use Rattle.theory_team.specs.Locks.{InCritical}
use Rattle.theory_team.specs.SomeLocks.{InLocking, LockedSome, Exclusion}
use Rattle.theory_answers.proofs.SizeLaws.{for-unique, answer-for}
use Rattle.theory_answers.specs.declared.Size.{Size}
use Rattle.theory_answers.specs.declared.Size.TheVariants.{Any, Of}
use Rattle.theory_exact.specs.Constructs.{inside-open}
use Rattle.theory_exact.specs.Answered.{ConcurrentFor}
use Rattle.theory_exact.proofs.AnsweredFor.{exact-for}
use Rattle.theory_exact.specs.Barred.{BarredFor}
use Rattle.theory_exact.specs.Answered.{MeetsFor}
use Rattle.theory_exact.proofs.Unmet.{unmet}
use Rattle.theory_exact.specs.Synchronized.{some-excluded}
use Rattle.theory_exact.specs.Droppable.{Clear, Never, Droppable, AlwaysDroppable, Unlocking, Fits, Enough, AlwaysEnough}

-- two threads in a state of a run
there : {R : Region} {m : ℕ} {τ μ : State} {r : Run R m (initial R) τ} → StateOf R m (initial R) τ r μ → (i j : ℕ) → i < m → j < m → i ≢ j
    → Meets R m (μ.node i) (μ.node j)
there {τ = τ} {μ} {r} passed i j li lj n =
    record { final = τ; run = r; state = μ; passed = passed; t = i; u = j; t-in = li; u-in = lj; differ = n; at_a = refl; at_b = refl }

module _ {R : Region} (W : WellFormed R) (C : Connected R) (locks : ℕ → Bool) where
  -- One state of a run that keeps the locks that are left, with no two threads at a pair that has P.
  module _ {m : ℕ} {τ μ : State} {r : Run R m (initial R) τ} (passed : StateOf R m (initial R) τ r μ) (K : LockedSome locks r) (P : ℕ → ℕ → Type 0)
      (apart : (i j : ℕ) → i < m → j < m → i ≢ j → Open R (μ.node i) → Open R (μ.node j) → P (μ.node i) (μ.node j) → ⊥) where
    -- a thread inside a critical that does not lock, against another
    unlocked : {c : ℕ} → Clear R P c → (i j : ℕ) → i < m → j < m → i ≢ j → R.inside (μ.node i) c ≡ true → InCritical R (μ.node j) (R.name c) → ⊥
    unlocked D i j li lj n x y = apart i j li lj n (inside-open W x) (inside-open W y.within) (D.pairs (μ.node i) (μ.node j) x y)

    excluded : Unlocking R locks (Clear R P) → Exclusion R m μ
    excluded D i j name li lj n a b = go (truth (locks a.construct)) (truth (locks b.construct))
      where
        renamed : {x c : ℕ} → R.name c ≡ name → InCritical R x name → InCritical R x (R.name c)
        renamed {x} e z = subst (InCritical R x) (sym e) z

        locking : {x : ℕ} (z : InCritical R x name) → locks z.construct ≡ true → InLocking R locks x name
        locking z h = record { construct = z.construct; is-critical = z.is-critical; is-locking = h; of-name = z.of-name; within = z.within }

        go : (locks a.construct ≡ true) ⊎ (locks a.construct ≡ false) → (locks b.construct ≡ true) ⊎ (locks b.construct ≡ false) → ⊥
        go (inr h) q = unlocked (D a.construct a.is-critical h) i j li lj n a.within (renamed a.of-name b)
        go (inl h) (inr g) = unlocked (D b.construct b.is-critical g) j i lj li (λ z. n (sym z)) b.within (renamed b.of-name a)
        go (inl h) (inl g) = some-excluded W C locks passed K i j name li lj n (locking a h) (locking b g)

  -- In finished runs.
  pub dropped : (size : Size) → Unlocking R locks (Droppable R size) → Enough R size locks
  unfolding there
  dropped size D m fits τ r K f μ passed =
      excluded passed K (Never R size) (λ i j li lj n ox oy h. never ox oy h (met size fits (meets-concurrent (there passed i j li lj n) f))) D
    where
      met : (size : Size) → Fits size m → {x y : ℕ} → ConcurrentIn R m x y → ConcurrentFor R size x y
      met Any z M = (m, M)
      met (Of n) z {x} {y} M = subst (λ (k : ℕ). ConcurrentIn R k x y) (sym z) M

      never : {x y : ℕ} → Open R x → Open R y → Never R size x y → ConcurrentFor R size x y → ⊥
      never {x} {y} ox oy (k, (A, n)) M = n (for-unique R x y size A (answer-for W size x y) ∙ (exact-for W C ox oy size).1 M)

  -- In all runs.
  pub always-dropped : (size : Size) → Unlocking R locks (AlwaysDroppable R size) → AlwaysEnough R size locks
  always-dropped size D m fits τ r K μ passed =
      excluded passed K (BarredFor R size) (λ i j li lj n ox oy h. unmet W C ox oy size h (met size fits (there passed i j li lj n))) D
    where
      met : (size : Size) → Fits size m → {x y : ℕ} → Meets R m x y → MeetsFor R size x y
      met Any z M = (m, M)
      met (Of n) z {x} {y} M = subst (λ (k : ℕ). Meets R k x y) (sym z) M
