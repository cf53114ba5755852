-- Before the first entry.
-- Assumes nothing.
use mathlib.Core.Path.{◌≡◌, refl, sym, ◌∙◌, ap}
use mathlib.Core.Bool.{false, ◌||◌}
use mathlib.Core.List.{List}
use Prim.Native.Nat.{ℕ, zero, suc, ◌+◌, ◌*◌, ◌≤◌, ◌<◌}
use native.Mathlib.Omega.{arith}
use lib.ListN.{length, get_or, replicate, get_or-replicate}
use Rattle.lists.specs.Bits.{mask-empty}
use Rattle.lists.specs.Store.{zeros}
use Rattle.chart.specs.Region.{Region}
use Rattle.theory_team.specs.State.{initial}
use Rattle.theory_traces.specs.Replay.{together, begun}
use Rattle.answer_steps.specs.declared.tables.TeamTable.{TeamTable}
use Rattle.answer_steps.specs.Teams.{unknown}
use Rattle.answer_steps.specs.Tables.{Shows}
use Rattle.call_replay.specs.PairsMet.{Sheet, Kept}
use Rattle.call_replay.specs.declared.pairs_met.Rows.{Rows}
use Rattle.call_replay.proofs.Sheets.{row_fits}
use Rattle.call_replay.specs.Playing.{Playing}
use Rattle.call_replay.proofs.Choices.{playing-reached}

-- every thread is at start
pub shows-begun : (R : Region) (v k : ℕ) → v ≡ R.start → v < 256
    → Shows (initial R) (record { threads = replicate 8 (record { node = v; counts = replicate 48 0; taken = replicate 48 0 }); chosen = replicate 8 0; pending = k; left = 0 })
unfolding initial
shows-begun R v k q b = record {
  long = refl;
  room = refl;
  wide = λ t l. rw (thread t l) (refl, refl);
  node = λ t l. rw (thread t l) q;
  byte = λ t l. rw (thread t l) b;
  count = λ t c l h. rw (thread t l) (zeros 48 c);
  taken = λ t c l h. rw (thread t l) (zeros 48 c ∙ sym (mask-empty (λ x. false) 48 (λ b j. refl)));
  left = omega arith;
  others = λ t c l h n. rw (thread t l) (zeros 48 c, zeros 48 c);
}
  where
    thread : (t : ℕ) → t < 8 → get_or (replicate 8 (record { node = v; counts = replicate 48 0; taken = replicate 48 0 })) t unknown ≡ record { node = v; counts = replicate 48 0; taken = replicate 48 0 }
    thread t l = get_or-replicate 8 t _ unknown l

-- no pair is met
pub sheet-blank : (n : ℕ) (rows : Rows) {out : List ℕ} → ((j : ℕ) → j < rows.count * n → get_or out j 0 ≡ 0) → Sheet n rows (λ a b. false) out
sheet-blank n rows z = record { at = λ i b l k. z (i * n + b) (omega (arith, row_fits i n rows.count l)) }

pub playing-begun : (R : Region) {m : ℕ} {rows : Rows} {team : TeamTable} {out : List ℕ} → 1 ≤ m → Shows (initial R) team → team.pending ≡ 0
    → Sheet R.nodes rows (λ a b. false || together m (initial R) a b) out → Playing R m rows (begun R m) team out
unfolding begun
playing-begun R l S z H = playing-reached (λ a b. false) (initial R) (omega arith) S z H

pub kept-cleared : {size : ℕ} {old new : List ℕ} → length new ≡ length old → ((j : ℕ) → size ≤ j → get_or new j 0 ≡ get_or old j 0) → Kept size old new
kept-cleared l p = record { long = l; past = p }
