-- The team rules with the locks of some criticals alone, the others' dropped: `locks` tells which criticals still lock. The begin of such a
-- critical is left only while no other thread is inside a critical of that name that locks too; the begin of any other critical is left as if there
-- were no locks. With all of them locking these are the rules of specs/Locks.antt (02, Note 9), and with none those of specs/Step.antt.
-- Assumes nothing.
use Rattle.std.specs.Prelude.{◌≡◌, ◌≢◌, Bool, true, ℕ, ◌<◌}
use Rattle.chart.specs.Region.{opens, critical, Region}
use Rattle.theory_team.specs.State.{State}
use Rattle.theory_team.specs.Step.{Step, one, release}
use Rattle.theory_team.specs.Run.{Run, done, step}
use Rattle.theory_team.specs.Locks.{InCritical}

-- Node x is inside a critical of this name that locks, at any depth.
pub record InLocking (R : Region) (locks : ℕ → Bool) (x name : ℕ) : Type 0 where
  pub construct : ℕ
  pub is-critical : R.kind construct ≡ critical
  pub is-locking : locks construct ≡ true
  pub of-name : R.name construct ≡ name
  pub within : R.inside x construct ≡ true

-- The step keeps the locks that are left: if it is one of a thread at the begin of a critical that locks, no other thread is inside a critical of
-- that name that locks.
abbrev pub KeepsSome : {R : Region} {m : ℕ} {σ τ : State} → (ℕ → Bool) → Step R m σ τ → Type 0
KeepsSome {R} {m} {σ} locks (one {t = t} l s) =
    (c : ℕ) → R.role (σ.node t) ≡ opens c → R.kind c ≡ critical → locks c ≡ true
    → (k : ℕ) → k < m → k ≢ t → InLocking R locks (σ.node k) (R.name c) → ⊥
KeepsSome locks (release b to h n all edges) = Unit {0}

-- Every step of the run does.
abbrev pub LockedSome : {R : Region} {m : ℕ} {σ τ : State} → (ℕ → Bool) → Run R m σ τ → Type 0
LockedSome locks done = Unit {0}
LockedSome locks (step s r) = KeepsSome locks s × LockedSome locks r

-- Two different threads are not inside criticals of one name, whichever of these lock.
abbrev pub Exclusion : Region → ℕ → State → Type 0
Exclusion R m σ = (i j name : ℕ) → i < m → j < m → i ≢ j → InCritical R (σ.node i) name → InCritical R (σ.node j) name → ⊥
