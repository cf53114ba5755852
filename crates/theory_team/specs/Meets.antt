-- Meetings in any run, finished or not. Demand 3 and the answers speak of finished runs (specs/Run.antt): "Programs that break OpenMP's all-or-none
-- barrier rule have runs that cannot finish; they count for nothing" (01). Here they count.
-- Assumes nothing.
use Rattle.std.specs.Prelude.{◌≡◌, ◌≢◌, ℕ, ◌<◌}
use Rattle.chart.specs.Region.{Region}
use Rattle.theory_team.specs.State.{State, initial}
use Rattle.theory_team.specs.Run.{Run, Finished, StateOf, ConcurrentIn}

-- Nodes a and b, which may be equal, are met in a team of m: in some state of some run, which need not finish, two different threads of the team
-- stand at them.
pub record Meets (R : Region) (m a b : ℕ) : Type 0 where
  pub final : State
  pub run : Run R m (initial R) final
  pub state : State
  pub passed : StateOf R m (initial R) final run state
  pub t : ℕ
  pub u : ℕ
  pub t-in : t < m
  pub u-in : u < m
  pub differ : t ≢ u
  pub at_a : state.node t ≡ a
  pub at_b : state.node u ≡ b

-- What is concurrent is met: by a finished run.
pub concurrent-meets : {R : Region} {m a b : ℕ} → ConcurrentIn R m a b → Meets R m a b
concurrent-meets M = record {
  final = M.final;
  run = M.run;
  state = M.state;
  passed = M.passed;
  t = M.t;
  u = M.u;
  t-in = M.t-in;
  u-in = M.u-in;
  differ = M.differ;
  at_a = M.at_a;
  at_b = M.at_b;
}

-- What is met by a run that finishes is concurrent.
pub meets-concurrent : {R : Region} {m a b : ℕ} (M : Meets R m a b) → Finished R m M.final → ConcurrentIn R m a b
meets-concurrent M f = record {
  final = M.final;
  run = M.run;
  finished = f;
  state = M.state;
  passed = M.passed;
  t = M.t;
  u = M.u;
  t-in = M.t-in;
  u-in = M.u-in;
  differ = M.differ;
  at_a = M.at_a;
  at_b = M.at_b;
}
