-- Runs put together, and cut at one of their states.
-- Assumes nothing.
use Rattle.std.specs.Prelude.{ℕ}
use Rattle.chart.specs.Region.{Region}
use Rattle.theory_team.specs.State.{State}
use Rattle.theory_team.specs.Run.{Run, done, step, StateOf, now, later}

module _ {R : Region} {m : ℕ} where
  unfoldable pub append : {σ μ τ : State} → Run R m σ μ → Run R m μ τ → Run R m σ τ
  append done s = s
  append (step x r) s = step x (append r s)

  pub append-state : {σ μ τ : State} (r : Run R m σ μ) (s : Run R m μ τ) → StateOf R m σ τ (append r s) μ
  unfolding append
  append-state done s = now
  append-state (step x r) s = later (append-state r s)

  pub before : {σ τ μ : State} {r : Run R m σ τ} → StateOf R m σ τ r μ → Run R m σ μ
  before now = done
  before (later {s = s} h) = step s (before h)

  pub after : {σ τ μ : State} {r : Run R m σ τ} → StateOf R m σ τ r μ → Run R m μ τ
  after (now {r = r}) = r
  after (later h) = after h
