-- Runs of a team, and what it means that two nodes are concurrent.
-- Assumes nothing.
use Rattle.std.specs.Prelude.{◌≡◌, ◌≢◌, ℕ, ◌<◌}
use Rattle.chart.specs.Region.{Region}
use Rattle.theory_team.specs.State.{State, initial}
use Rattle.theory_team.specs.Step.{Step}

-- A finite list of steps, each taken in the state that the step before it left. One that begins in the first state is 01's run.
pub data Run (R : Region) (m : ℕ) : State → State → Type 0 where
  done : {σ : State} → Run R m σ σ
  step : {σ τ ρ : State} → Step R m σ τ → Run R m τ ρ → Run R m σ ρ

-- Every thread is at finish. A run that ends so is 01's finished run.
abbrev pub Finished : Region → ℕ → State → Type 0
Finished R m σ = (t : ℕ) → t < m → σ.node t ≡ R.finish

-- μ is a state of the run (01: a moment): the state before the first step, or after any.
pub data StateOf (R : Region) (m : ℕ) : (σ τ : State) → Run R m σ τ → State → Type 0 where
  now : {σ τ : State} {r : Run R m σ τ} → StateOf R m σ τ r σ
  later : {σ τ ρ μ : State} {s : Step R m σ τ} {r : Run R m τ ρ} → StateOf R m τ ρ r μ → StateOf R m σ ρ (step s r) μ

-- Nodes a and b, which may be equal, are concurrent in a team of m (01: met): in some state of some finished run two different threads of the
-- team stand at them.
pub record ConcurrentIn (R : Region) (m a b : ℕ) : Type 0 where
  pub final : State
  pub run : Run R m (initial R) final
  pub finished : Finished R m final
  pub state : State
  pub passed : StateOf R m (initial R) final run state
  pub t : ℕ
  pub u : ℕ
  pub t-in : t < m
  pub u-in : u < m
  pub differ : t ≢ u
  pub at_a : state.node t ≡ a
  pub at_b : state.node u ≡ b

-- Concurrent in some team, of any size.
abbrev pub Concurrent : Region → ℕ → ℕ → Type 0
Concurrent R a b = (m : ℕ) × ConcurrentIn R m a b
