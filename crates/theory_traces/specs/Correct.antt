-- What the replay promises a buyer (02, Note 11): its number and values, the records and the sheet, by the team rules alone (specs/Legal.antt). It rests on how a
-- chart's bytes are read for a region (crate chart) and on the table of refusals.
-- Assumes nothing.
use Rattle.std.specs.Prelude.{◌≡◌, Bool, true, false, List, ℕ, suc, ◌+◌, ◌*◌, ◌/◌, ◌≤◌, ◌<◌, pos, neg_ℤ, length, get_or}
use Rattle.std.proofs.Math.Option.{Option, none, some}
use Rattle.lists.specs.Tab.{tab}
use Rattle.chart.specs.Format.{decode}
use Rattle.chart.specs.Region.{Region}
use Rattle.chart.specs.Reading.{region_of}
use Rattle.chart.specs.Refusal.{first_of, row_number}
use Rattle.theory_paths.specs.Path.{Open}
use Rattle.theory_team.specs.State.{State}
use Rattle.theory_team.specs.Run.{Finished}
use Rattle.theory_answers.specs.Answer.{answer, answer_in}
use Rattle.theory_traces.specs.Legal.{Legal, MetBy}
use Rattle.theory_traces.specs.Call.{replay_rows, record_of, Values}
use Rattle.theory_traces.specs.declared.Thread.{Thread}
use Rattle.chart.specs.declared.format.Refusal.{Refusal}

-- What the values say of a trace whose first k entries are legal and lead to the state: all entries are legal, and every thread is at finish, or not
-- every one is; or the rules forbid entry k.
abbrev pub Says : Region → ℕ → List ℕ → ℕ → State → Option Bool → Option ℕ → Type 0
Says R m trace k σ (some true) none = (k ≡ length trace / 2) × Finished R m σ
Says R m trace k σ (some false) none = (k ≡ length trace / 2) × (Finished R m σ → ⊥)
Says R m trace k σ (some false) (some index) = (index ≡ k) × ((k < length trace / 2) × ((τ : State) (nodes : List ℕ) → Legal R m trace (suc k) τ nodes → ⊥))
Says R m trace k σ (some true) (some index) = ⊥
Says R m trace k σ none forbidden = ⊥

-- Of a trace that is replayed: the number and the values, the state as at the last legal entry, and the sheet, 1 for met up to there and 0 otherwise.
pub record Told (R : Region) (m : ℕ) (trace : List ℕ) (said : Values) (σ : State) (sheet : List ℕ) : Type 0 where
  pub entries : ℕ
  pub chosen : List ℕ
  pub legal : Legal R m trace entries σ chosen
  pub number : said.number ≡ pos 0
  pub says : Says R m trace entries σ said.finished said.forbidden
  pub met : (a b : ℕ) → a < R.nodes → b < R.nodes → MetBy R m trace entries a b → get_or sheet (a * R.nodes + b) 0 ≡ 1
  pub not-met : (a b : ℕ) → a < R.nodes → b < R.nodes → (MetBy R m trace entries a b → ⊥) → get_or sheet (a * R.nodes + b) 0 ≡ 0

-- The bytes of a chart, the number of a region, the bytes of a trace, and the lent records and bytes before the call. The team is one thread for each
-- record.
module _ (s : List ℕ) (p : ℕ) (trace : List ℕ) (records : List Thread) (old : List ℕ) where
  abbrev R : Region
  R = region_of p (decode s)

  abbrev n : ℕ
  n = R.nodes

  abbrev m : ℕ
  m = length records

  abbrev refused : Option Refusal
  refused = first_of (replay_rows s p trace m (length old))

  -- The number and the values of the answer, and the lent records and bytes afterwards, are right.
  pub record ReplayCorrect (said : Values) (left : List Thread) (new : List ℕ) : Type 0 where
    -- refused: the number of the first of rows 1 to 10, 23, 22 and 11 that applies, negated, and all that was lent is left as found
    pub refuses : (refusal : Refusal) → refused ≡ some refusal → (said ≡ record { number = neg_ℤ (pos (row_number refusal)); finished = none; forbidden = none }) × ((left ≡ records) × (new ≡ old))
    -- otherwise the trace is replayed
    pub replays : refused ≡ none → (σ : State) × ((left ≡ tab m (record_of σ)) × Told R m trace said σ new)
    -- in a finished trace every marked pair of nodes that are no barriers is answered 0 (02: is one that may meet), for teams of any size and
    -- for those of this size
    pub may-meet : said.finished ≡ some true → (a b : ℕ) → a < n → b < n → Open R a → Open R b → get_or new (a * n + b) 0 ≡ 1 → (answer R a b ≡ 0) × (answer_in R m a b ≡ 0)
    -- bytes past the sheet keep their values
    pub rest : refused ≡ none → (j : ℕ) → n * n ≤ j → get_or new j 0 ≡ get_or old j 0
    pub long : length new ≡ length old
