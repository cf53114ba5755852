-- What the replay keeps between entries: the table of the team, and rows of the sheet of the pairs met.
-- Assumes nothing.
use Rattle.std.specs.Prelude.{◌≡◌, Bool, true, false, List, ℕ, ◌+◌, ◌*◌, ◌≤◌, ◌<◌, length, get_or}
use Rattle.std.proofs.Math.Option.{Option, none, some}
use Rattle.chart.specs.Region.{Region}
use Rattle.theory_team.specs.State.{State}
use Rattle.theory_traces.specs.Replay.{Play, begun, gathered, feed, outcome_of, play_of, replayed}
use Rattle.theory_traces.specs.Owned.{Own}
use Rattle.theory_traces.specs.declared.Replayed.{Replayed}
use Rattle.answer_steps.specs.declared.tables.TeamTable.{TeamTable}
use Rattle.answer_steps.specs.Tables.{Tabled, Shows}
use Rattle.call_replay.specs.PairsMet.{Sheet, Kept}
use Rattle.call_replay.specs.declared.pairs_met.Rows.{Rows}

pub record Playing (R : Region) (m : ℕ) (rows : Rows) (P : Play) (team : TeamTable) (out : List ℕ) : Type 0 where
  pub state : Shows P.state team
  -- the nodes chosen for a release that is not yet whole
  pub pending : team.pending ≡ length P.chosen
  pub fewer : length P.chosen < m
  pub choice : (t : ℕ) → t < length P.chosen → get_or team.chosen t 0 ≡ get_or P.chosen t 0
  pub bytes : (t : ℕ) → t < length P.chosen → get_or team.chosen t 0 < 256
  -- they are chosen where a release is due, so that it need not be asked again
  pub due : 0 < length P.chosen → gathered R m P.state ≡ true
  pub marks : Sheet R.nodes rows P.met out
  -- what has met in the state is marked, so that a step need mark only what its thread meets
  pub own : Own m P

-- What an entry leads to, if anything, and whether it was fed; a forbidden one leaves all as it was.
pub data After (R : Region) (m : ℕ) (rows : Rows) (P : Play) : Option Play → Bool → TeamTable → List ℕ → Type 0 where
  forbidden : {team : TeamTable} {out : List ℕ} → Playing R m rows P team out → After R m rows P none false team out
  fed : {Q : Play} {team : TeamTable} {out : List ℕ} → Playing R m rows Q team out → After R m rows P (some Q) true team out

-- Before an entry to v: the table is a region's, team and rows are as a play has them, and there is room for the rows.
abbrev pub Ready : List ℕ → TeamTable → ℕ → ℕ → Rows → List ℕ → Type 0
Ready table team m v rows out = (R : Region) × (P : Play) × Tabled R table × Playing R m rows P team out × (m ≤ 8) × (v < 256) × (rows.count * R.nodes ≤ length out)

-- What holds of every region that has the table, and of every play that team and rows show.
abbrev pub OfPlays : ℕ → Rows → List ℕ → TeamTable → List ℕ → (Region → Play → Type 0) → Type 0
OfPlays m rows table team out X = (R : Region) (P : Play) → Tabled R table → Playing R m rows P team out → X R P

-- After an entry: what it leads to, and the bytes past the rows as they were.
abbrev pub Fed : Region → ℕ → Rows → Play → Option Play → Bool → TeamTable → List ℕ → List ℕ → Type 0
Fed R m rows P next done team old new = After R m rows P next done team new × Kept (rows.count * R.nodes) old new

-- The entry of thread t to v is fed; and it is, if it belongs to a release, or does not.
abbrev pub Feeds : ℕ → Rows → ℕ → ℕ → Bool → List ℕ → TeamTable → List ℕ → TeamTable → List ℕ → Type 0
Feeds m rows t v done table team old left new = OfPlays m rows table team old (λ R P. Fed R m rows P (feed R m P t v) done left old new)

abbrev pub FeedsIf : Bool → ℕ → Rows → ℕ → ℕ → Bool → List ℕ → TeamTable → List ℕ → TeamTable → List ℕ → Type 0
FeedsIf release m rows t v done table team old left new =
    OfPlays m rows table team old (λ R P. gathered R m P.state ≡ release → Fed R m rows P (feed R m P t v) done left old new)

-- After a whole trace: the same, and what is answered.
abbrev pub Played : Region → ℕ → Rows → List ℕ → Replayed → TeamTable → List ℕ → List ℕ → Type 0
Played R m rows trace said team old new =
    (said ≡ outcome_of R m (replayed R m trace)) × Playing R m rows (play_of (replayed R m trace)) team new × Kept (rows.count * R.nodes) old new

-- From the first state on.
abbrev pub Plays : ℕ → Rows → List ℕ → Replayed → List ℕ → TeamTable → List ℕ → TeamTable → List ℕ → Type 0
Plays m rows trace said table team old left new = (R : Region) → Tabled R table → Playing R m rows (begun R m) team old → Played R m rows trace said left old new

-- No thread has left a begin more than k times.
abbrev pub Few : ℕ → State → Type 0
Few k σ = (t c : ℕ) → σ.encounters t c ≤ k
