-- The team rules with locks added (02, Note 9): a critical's begin is left only while no other thread is inside a critical of that name. The
-- rules themselves stay as they are: a run keeps the locks if each of its steps does. Judge speaks of all runs, with no word of locks.
-- Assumes nothing.
use Rattle.std.specs.Prelude.{◌≡◌, ◌≢◌, true, ℕ, ◌<◌}
use Rattle.chart.specs.Region.{opens, critical, Region}
use Rattle.std.proofs.Common.{arith}
use Rattle.theory_team.specs.State.{State}
use Rattle.theory_team.specs.Step.{ThreadStep, Step, one, release}
use Rattle.theory_team.specs.Run.{Run, done, step, ConcurrentIn}

-- Node x is inside a critical of this name, at any depth.
pub record InCritical (R : Region) (x name : ℕ) : Type 0 where
  pub construct : ℕ
  pub is-critical : R.kind construct ≡ critical
  pub of-name : R.name construct ≡ name
  pub within : R.inside x construct ≡ true

-- No thread but t is inside a critical of this name.
abbrev pub Unlocked : Region → ℕ → State → ℕ → ℕ → Type 0
Unlocked R m σ t name = (k : ℕ) → k < m → k ≢ t → InCritical R (σ.node k) name → ⊥

-- The step keeps the locks: if it is one of a thread at a critical's begin, which every such step leaves, no other thread is inside a critical
-- of that name.
abbrev pub Keeps : {R : Region} {m : ℕ} {σ τ : State} → Step R m σ τ → Type 0
Keeps {R} {m} {σ} (one {t = t} l s) = (c : ℕ) → R.role (σ.node t) ≡ opens c → R.kind c ≡ critical → Unlocked R m σ t (R.name c)
Keeps (release b to h n all edges) = Unit {0}

-- Every step of the run does.
abbrev pub Locked : {R : Region} {m : ℕ} {σ τ : State} → Run R m σ τ → Type 0
Locked done = Unit {0}
Locked (step s r) = Keeps s × Locked r

-- Concurrent in a team of m under the rules with locks: by a run that keeps them.
pub record LockedIn (R : Region) (m a b : ℕ) : Type 0 where
  pub concurrent : ConcurrentIn R m a b
  pub locked : Locked concurrent.run

-- A thread waits at a critical's begin while another is inside a critical of that name.
pub waits : {R : Region} {m : ℕ} {σ τ : State} {t v c k : ℕ} (l : t < m) (s : ThreadStep R m σ t v τ) → Keeps (one l s)
    → R.role (σ.node t) ≡ opens c → R.kind c ≡ critical → k < m → k ≢ t → InCritical R (σ.node k) (R.name c) → ⊥
waits {c = c} {k} l s K o q i n C = K c o q k i n C

-- A thread does not wait for itself: every run of a team of one keeps the locks.
pub alone : {R : Region} {σ τ : State} (r : Run R 1 σ τ) → Locked r
alone done = tt
alone (step (one l s) r) = ((λ c o q k i n C. n (omega arith)), alone r)
alone (step (release b to h n all edges) r) = (tt, alone r)

-- Locks forbid nothing where there are none: a run keeps them where no construct is a critical, and what is concurrent there is so with locks too.
module _ {R : Region} (none : (c : ℕ) → R.kind c ≢ critical) where
  pub free : {m : ℕ} {σ τ : State} (r : Run R m σ τ) → Locked r
  free done = tt
  free (step (one l s) r) = ((λ c o q. absurd (none c q)), free r)
  free (step (release b to h n all edges) r) = (tt, free r)

  pub free_in : {m a b : ℕ} → ConcurrentIn R m a b → LockedIn R m a b
  free_in M = record { concurrent = M; locked = free M.run }
