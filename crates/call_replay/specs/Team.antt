-- How many records a replay writes, and what the replay by value promises of its team.
-- Assumes nothing.
use Rattle.std.specs.Prelude.{◌≡◌, List, ℕ, length}
use Rattle.std.proofs.Math.Option.{Option, none, some}
use Rattle.lists.specs.Tab.{tab}
use Rattle.chart.specs.Refusal.{first_of}
use Rattle.theory_traces.specs.Call.{replay_rows, record_of, final}
use Rattle.call_replay.specs.declared.run.Team.{Team}
use Rattle.chart.specs.declared.format.Refusal.{Refusal}

-- The records of the team, or none where the replay is refused.
unfoldable pub count_by : Option Refusal → ℕ → ℕ
count_by none m = m
count_by (some refusal) m = 0

module _ (s : List ℕ) (p : ℕ) (trace : List ℕ) (m : ℕ) (out : List ℕ) where
  abbrev pub refused : Option Refusal
  refused = first_of (replay_rows s p trace m (length out))

  abbrev pub Counts : Team → Type 0
  Counts team = team.count ≡ count_by refused m

  -- where nothing is refused, each thread as at the last legal entry
  abbrev pub Records : Team → Type 0
  Records team = refused ≡ none → team.threads ≡ tab 8 (record_of (final s p trace m).state)
