-- What the theorem for the answer speaks of: two nodes that are concurrent, or met, in some team where no size is given, and in a team of the size
-- where one is.
-- Assumes nothing.
use Rattle.std.specs.Prelude.{ℕ}
use Rattle.chart.specs.Region.{Region}
use Rattle.theory_team.specs.Run.{ConcurrentIn, Concurrent}
use Rattle.theory_team.specs.Meets.{Meets}
use Rattle.theory_answers.specs.declared.Size.{Size}
use Rattle.theory_answers.specs.declared.Size.TheVariants.{Any, Of}

-- Concurrent in some team, or in a team of the size.
abbrev pub ConcurrentFor : Region → Size → ℕ → ℕ → Type 0
ConcurrentFor R Any a b = Concurrent R a b
ConcurrentFor R (Of m) a b = ConcurrentIn R m a b

-- Met in some team, or in a team of the size, by a run that need not finish.
abbrev pub MeetsFor : Region → Size → ℕ → ℕ → Type 0
MeetsFor R Any a b = (m : ℕ) × Meets R m a b
MeetsFor R (Of m) a b = Meets R m a b
