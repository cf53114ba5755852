-- What it means that the lock of a critical is needed, in runs: with no locks some run has two threads together, one inside it and the other inside
-- a critical of its name. That this is what is computed is in proofs/LocksLaws.antt.
-- Assumes nothing.
use Rattle.std.specs.Prelude.{◌≡◌, true, ℕ}
use Rattle.chart.specs.Region.{opens, critical, Region}
use Rattle.theory_team.specs.Locks.{InCritical}
use Rattle.theory_answers.specs.declared.Size.{Size}
use Rattle.theory_exact.specs.Answered.{ConcurrentFor}
use Rattle.theory_exact.specs.Answered.{MeetsFor}

-- c is a critical of the region: its begin opens it there.
abbrev pub CriticalOf : Region → ℕ → Type 0
CriticalOf R c = (R.kind c ≡ critical) × (R.role (R.begin c) ≡ opens c)

-- A node inside c and a node inside a critical of c's name that have P.
pub record Pair (R : Region) (P : ℕ → ℕ → Type 0) (c : ℕ) : Type 0 where
  pub x : ℕ
  pub y : ℕ
  pub in_c : R.inside x c ≡ true
  pub in-named : InCritical R y (R.name c)
  pub has : P x y

-- Some finished run, of a team of the size or of any team, has two threads at such nodes together; and some run, finished or not.
abbrev pub Needed : Region → Size → ℕ → Type 0
Needed R size c = Pair R (ConcurrentFor R size) c

abbrev pub EverNeeded : Region → Size → ℕ → Type 0
EverNeeded R size c = Pair R (MeetsFor R size) c
