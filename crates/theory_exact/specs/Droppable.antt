-- Locks that can be dropped. By the answers: every pair of a node inside the critical and a node inside a critical of its name, itself included, is
-- answered never; begins and ends are not inside (01). In runs: the locks that are left are enough. That the one gives the other, for all such
-- criticals at once, is in proofs/Dropped.antt.
-- Assumes nothing.
use Rattle.std.specs.Prelude.{◌≡◌, ◌≢◌, Bool, true, false, ℕ}
use Rattle.chart.specs.Region.{critical, Region}
use Rattle.theory_team.specs.State.{State, initial}
use Rattle.theory_team.specs.Run.{Run, Finished, StateOf}
use Rattle.theory_team.specs.Locks.{InCritical}
use Rattle.theory_team.specs.SomeLocks.{LockedSome, Exclusion}
use Rattle.theory_answers.specs.Unexcluded.{AnswersFor}
use Rattle.theory_answers.specs.declared.Size.{Size}
use Rattle.theory_answers.specs.declared.Size.TheVariants.{Any, Of}
use Rattle.theory_exact.specs.Barred.{BarredFor}

-- c is a critical, and P holds of every pair of a node inside c and a node inside a critical of c's name.
pub record Clear (R : Region) (P : ℕ → ℕ → Type 0) (c : ℕ) : Type 0 where
  pub is-critical : R.kind c ≡ critical
  pub pairs : (x y : ℕ) → R.inside x c ≡ true → InCritical R y (R.name c) → P x y

-- a and b are answered never, for the teams of a size or for all.
abbrev pub Never : Region → Size → ℕ → ℕ → Type 0
Never R size a b = (k : ℕ) × (AnswersFor R size a b k × (k ≢ 0))

-- The lock of c can be dropped, as far as finished runs go.
abbrev pub Droppable : Region → Size → ℕ → Type 0
Droppable R size c = Clear R (Never R size) c

-- It can be dropped whether runs finish or not: each pair is excluded by a rule other than "no common end".
abbrev pub AlwaysDroppable : Region → Size → ℕ → Type 0
AlwaysDroppable R size c = Clear R (BarredFor R size) c

-- Every critical that does not lock has P.
abbrev pub Unlocking : Region → (ℕ → Bool) → (ℕ → Type 0) → Type 0
Unlocking R locks P = (c : ℕ) → R.kind c ≡ critical → locks c ≡ false → P c

-- A team of m is one that is asked about.
abbrev pub Fits : Size → ℕ → Type 0
Fits Any m = Unit {0}
Fits (Of n) m = n ≡ m

-- The locks that are left are enough: no finished run that keeps them has a state in which two different threads are inside criticals of one name,
-- whichever of these lock.
abbrev pub Enough : Region → Size → (ℕ → Bool) → Type 0
Enough R size locks =
    (m : ℕ) → Fits size m → (τ : State) (r : Run R m (initial R) τ) → LockedSome locks r → Finished R m τ
    → (μ : State) → StateOf R m (initial R) τ r μ → Exclusion R m μ

-- No run at all, finished or not.
abbrev pub AlwaysEnough : Region → Size → (ℕ → Bool) → Type 0
AlwaysEnough R size locks =
    (m : ℕ) → Fits size m → (τ : State) (r : Run R m (initial R) τ) → LockedSome locks r → (μ : State) → StateOf R m (initial R) τ r μ → Exclusion R m μ
