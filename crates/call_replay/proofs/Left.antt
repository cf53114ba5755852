-- What the replay by value promises, with its records stored, is what the replay over lent records is to leave.
-- Assumes nothing.
use Rattle.std.specs.Prelude.{Result}
use mathlib.Core.Path.{◌≡◌, refl, sym, ◌∙◌, ap, subst}
use mathlib.Core.List.{List}
use mathlib.Core.Option.{Option, none, some}
use Prim.Native.Nat.{ℕ, ◌≤◌}
use native.Mathlib.Omega.{arith}
use lib.ListN.{length}
use Rattle.chart.specs.declared.format.Refusal.{Refusal}
use Rattle.theory_traces.specs.Call.{record_of, records_by, final, replay_answer, records_left, sheet_left, values_of}
use Rattle.theory_traces.specs.Correct.{ReplayCorrect}
use Rattle.theory_traces.proofs.CorrectLaws.{passed-team, replay-correct}
use Rattle.theory_traces.specs.declared.Replayed.{Replayed}
use Rattle.theory_traces.specs.declared.Thread.{Thread}
use Rattle.call_replay.specs.Team.{count_by, refused, Counts, Records}
use Rattle.call_replay.specs.declared.run.Team.{Team}
use Rattle.call_replay.specs.Stored.{stored}
use Rattle.call_replay.proofs.Laws.{stored-none, stored-all}

module _ (s : List ℕ) (p : ℕ) (trace : List ℕ) (m : ℕ) (out : List ℕ) where
  -- What `run` promises of its team and of the sheet, clause by clause.
  abbrev pub Answers : Team → Type 0
  Answers team = team.answer ≡ replay_answer s p trace m out

  abbrev pub Marks : List ℕ → Type 0
  Marks new = new ≡ sheet_left s p trace m out

  pub record Ran (team : Team) (new : List ℕ) : Type 0 where
    pub answer : Answers team
    pub sheet : Marks new
    pub count : Counts s p trace m out team
    pub threads : Records s p trace m out team

  module _ (team : Team) (new : List ℕ) (ran : Ran team new) where
    counted : (o : Option Refusal) → refused s p trace m out ≡ o → team.count ≡ count_by o m
    counted o h = ran.count ∙ ap (λ (z : Option Refusal). count_by z m) h

    -- the records to store are in the team, and there is room for them
    pub count_small : (team.count ≤ 8) × (team.count ≤ m)
    unfolding count_by
    count_small = go (refused s p trace m out) refl
      where
        go : (o : Option Refusal) → refused s p trace m out ≡ o → (team.count ≤ 8) × (team.count ≤ m)
        go none h = let q : team.count ≡ m = counted none h in (omega (arith, (passed-team s p trace m out h).1.0), omega arith)
        go (some row) h = let q : team.count ≡ 0 = counted (some row) h in (omega arith, omega arith)

module _ (s : List ℕ) (p : ℕ) (trace : List ℕ) (records : List Thread) (out : List ℕ) (team : Team) (new : List ℕ)
    (ran : Ran s p trace (length records) out team new) where
  abbrev m : ℕ
  m = length records

  pub stored-left : stored team.threads team.count records ≡ records_left s p trace records out
  unfolding count_by records_left records_by
  stored-left = go (refused s p trace m out) refl
    where
      go : (o : Option Refusal) → refused s p trace m out ≡ o → stored team.threads team.count records ≡ records_left s p trace records out
      go none h =
          let q : team.count ≡ m = counted s p trace m out team new ran none h in
          rw (h, q, ran.threads h) (stored-all (record_of (final s p trace m).state) records (passed-team s p trace m out h).1.0)
      go (some row) h =
          let q : team.count ≡ 0 = counted s p trace m out team new ran (some row) h in
          rw (h, q) (stored-none team.threads records)

-- What the replay over lent records promises, clause by clause.
pub record Left (s : List ℕ) (p : ℕ) (trace : List ℕ) (records : List Thread) (out : List ℕ) (said : Result Replayed Refusal) (left : List Thread)
    (new : List ℕ) : Type 0 where
  pub answer : said ≡ replay_answer s p trace (length records) out
  pub records' : left ≡ records_left s p trace records out
  pub sheet : new ≡ sheet_left s p trace (length records) out
  pub correct : ReplayCorrect s p trace records out (values_of said) left new

pub ran-left : (s : List ℕ) (p : ℕ) (trace : List ℕ) (records : List Thread) (out : List ℕ) (team : Team) (new : List ℕ) (said : Result Replayed Refusal)
    (left : List Thread) → Ran s p trace (length records) out team new → said ≡ team.answer → left ≡ stored team.threads team.count records
    → Left s p trace records out said left new
ran-left s p trace records out team new said left ran e f =
    let m = length records in
    let a : said ≡ replay_answer s p trace m out = e ∙ ran.answer in
    let b : left ≡ records_left s p trace records out = f ∙ stored-left s p trace records out team new ran in
    record {
      answer = a;
      records' = b;
      sheet = ran.sheet;
      correct =
          subst (λ (z : Result Replayed Refusal). ReplayCorrect s p trace records out (values_of z) left new) (sym a)
          (subst (λ (z : List Thread). ReplayCorrect s p trace records out (values_of (replay_answer s p trace m out)) z new) (sym b)
          (subst (λ (z : List ℕ). ReplayCorrect s p trace records out (values_of (replay_answer s p trace m out)) (records_left s p trace records out) z) (sym ran.sheet)
          (replay-correct s p trace records out)));
    }
