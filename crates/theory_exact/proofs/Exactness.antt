-- Exactness, of teams of m threads and of all: two open nodes are unexcluded exactly when they are concurrent; the same of meetings in any run.
-- Assumes nothing.
use Rattle.std.proofs.Common.{arith}
use Rattle.std.specs.Prelude.{◌↔◌, ℕ, ◌+◌, ◌≤◌}
use Rattle.chart.specs.Region.{master, Region}
use Rattle.chart.specs.WellFormed.{WellFormed}
use Rattle.theory_paths.specs.Path.{Open}
use Rattle.theory_paths.specs.Connected.{Connected}
use Rattle.theory_team.specs.Run.{ConcurrentIn, Concurrent}
use Rattle.theory_team.specs.Meets.{Meets}
use Rattle.theory_answers.specs.Unexcluded.{HasThreads, Unexcluded}
use Rattle.theory_exact.specs.Barred.{Unbarred}
use Rattle.theory_exact.specs.Nesting.{within}
use Rattle.theory_exact.proofs.Unmet.{met-two, met-has-a, met-has-b, met-unbarred}
use Rattle.theory_exact.specs.Complete.{meet}
use Rattle.theory_exact.proofs.Exact.{chosen, size_for, soundness, completeness}

module _ {R : Region} (W : WellFormed R) (C : Connected R) {a b : ℕ} (oa : Open R a) (ob : Open R b) where
  -- teams of m threads
  pub exactness-in : (m : ℕ) → ((2 ≤ m) × HasThreads R m a × HasThreads R m b × Unexcluded R a b) ↔ ConcurrentIn R m a b
  exactness-in m = ((λ h. completeness W C oa ob h.0 h.1 h.2 h.3), λ M. soundness W C oa ob M)

  -- some team is large enough
  some-team : (m : ℕ) × ((2 ≤ m) × HasThreads R m a × HasThreads R m b)
  some-team = go (size_for W (within W master a)) (size_for W (within W master b))
    where
      go : (n : ℕ) × ((m : ℕ) → n ≤ m → HasThreads R m a) → (n : ℕ) × ((m : ℕ) → n ≤ m → HasThreads R m b) → (m : ℕ) × ((2 ≤ m) × HasThreads R m a × HasThreads R m b)
      go x y = let m = 2 + (x.0 + y.0) in (m, (omega arith, x.1 m (omega arith), y.1 m (omega arith)))

  -- all teams
  pub exactness : Unexcluded R a b ↔ Concurrent R a b
  exactness = ((λ D. let (m, (two, fa, fb)) = some-team in (m, (exactness-in m).0 (two, fa, fb, D))), λ M. ((exactness-in M.0).1 M.1).3)

  -- The same of meetings in any run, finished or not: there "no common end" excludes nothing.
  pub meeting-in : (m : ℕ) → ((2 ≤ m) × HasThreads R m a × HasThreads R m b × Unbarred R a b) ↔ Meets R m a b
  meeting-in m = (
    (λ (two, fa, fb, D). meet W C (chosen W D two fa fb (within W master a) (within W master b)) oa ob D),
    λ M. (met-two W C M, met-has-a W C M, met-has-b W C M, met-unbarred W C M oa ob),
  )

  pub meeting : Unbarred R a b ↔ ((m : ℕ) × Meets R m a b)
  meeting = ((λ D. let (m, (two, fa, fb)) = some-team in (m, (meeting-in m).0 (two, fa, fb, D))), λ M. ((meeting-in M.0).1 M.1).3)
