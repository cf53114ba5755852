-- The table of a team that is being released.
-- Assumes nothing.
use mathlib.Core.Path.{◌≡◌, refl, sym, ◌∙◌, ap}
use mathlib.Core.Bool.{false}
use mathlib.Core.List.{List}
use Prim.Native.Nat.{ℕ, ◌+◌, ◌-◌, ◌^◌, ◌≤◌, ◌<◌}
use native.Mathlib.Omega.{arith}
use native.Mathlib.Decide.{dec_lt, ℕ_discrete}
use lib.Bits.{bit_and, and_le_r}
use lib.ListN.{length, get_or, set, length-set}
use lib.Seq.{get_or-set_same, get_or-set_other}
use Rattle.lists.specs.Truth.{is, is_true, true-is, false-if}
use Rattle.lists.specs.Mask.{Has, has-none}
use Rattle.lists.specs.Bits.{mask-empty}
use Rattle.lists.specs.Lowest.{Lowest, without-lowest}
use Rattle.theory_team.specs.State.{State, released}
use Rattle.theory_traces.specs.declared.Thread.{Thread}
use Rattle.answer_steps.specs.declared.tables.TeamTable.{TeamTable}
use Rattle.answer_steps.specs.Teams.{thread_at, count_at, taken_at}
use Rattle.answer_steps.specs.Tables.{Shows}
use Rattle.answer_steps.proofs.Stores.{at_thread}
use Rattle.call_replay.specs.Release.{without, SetBack, AllBack}

-- where the team's threads go alone counts
pub released-same : {m : ℕ} {team : TeamTable} (σ : State) (f g : ℕ → ℕ) → ((t : ℕ) → t < m → f t ≡ g t) → Shows (released m σ f) team → Shows (released m σ g) team
unfolding released
released-same {m} {team} σ f g e S = record {
  long = S.long;
  room = S.room;
  wide = S.wide;
  node = λ t l. S.node t l ∙ go t (dec_lt t m);
  byte = S.byte;
  count = S.count;
  taken = S.taken;
  left = S.left;
  others = S.others;
}
  where
    go : (t : ℕ) → Dec (t < m) → (released m σ f).node t ≡ (released m σ g).node t
    go t (yes q) = rw (true-is (dec_lt t m) q) (e t q)
    go t (no q) = rw (false-if {b = is (dec_lt t m)} (λ h. q (is_true (dec_lt t m) h)))

pub back_none : (c : ℕ) (team : TeamTable) → SetBack 0 c team team
back_none c team = record { long = refl; at = λ t l. absurd (omega arith); rest = λ t l. refl; chosen = refl; pending = refl; left = refl }

-- The table once thread t has this record.
abbrev pub stored_thread : TeamTable → ℕ → Thread → TeamTable
stored_thread team t w = record { threads = set team.threads t w; chosen = team.chosen; pending = team.pending; left = team.left }

pub back_more : {t c : ℕ} {old team : TeamTable} → t < 8 → length old.threads ≡ 8 → SetBack t c old team → SetBack (t + 1) c old (stored_thread team t (without c (thread_at team t)))
back_more {t} {c} {old} {team} l long B =
    let at : t < length team.threads = omega (arith, B.long) in
    record {
      long = length-set team.threads t _ ∙ B.long;
      at = λ k h. at_thread (λ r. r ≡ without c (thread_at old k)) team.threads t _ k at (λ e. ap (without c) (B.rest t (omega arith)) ∙ rw e refl) (λ d. B.at k (omega arith));
      rest = λ k h. at_thread (λ r. r ≡ thread_at old k) team.threads t _ k at (λ e. absurd (omega arith)) (λ d. B.rest k (omega arith));
      chosen = B.chosen;
      pending = B.pending;
      left = B.left;
    }

-- The constructs of `rest` are left to set back.
pub record Setting (old : TeamTable) (rest : ℕ) (team : TeamTable) : Type 0 where
  pub long : length team.threads ≡ 8
  pub wide : (t : ℕ) → t < 8 → (length (thread_at team t).counts ≡ 48) × (length (thread_at team t).taken ≡ 48)
  pub node : (t : ℕ) → t < 8 → (thread_at team t).node ≡ (thread_at old t).node
  pub chosen : team.chosen ≡ old.chosen
  pub pending : team.pending ≡ old.pending
  pub waits : rest < 2 ^ 48
  pub done : (t c : ℕ) → t < 8 → c < 48 → (Has rest c → ⊥) → (count_at team t c ≡ 0) × (taken_at team t c ≡ 0)

-- one construct after the other
pub setting-none : {σ : State} {team : TeamTable} → Shows σ team → Setting team team.left team
setting-none S = record { long = S.long; wide = S.wide; node = λ t l. refl; chosen = refl; pending = refl; waits = S.left; done = S.others }

pub setting-more : {old team new : TeamTable} {rest c : ℕ} → Setting old rest team → c < 48 → Lowest rest c 64 → SetBack 8 c team new → Setting old (bit_and rest (rest - 1)) new
setting-more {old} {team} {new} {rest} {c} G m l B = record {
  long = B.long ∙ G.long;
  wide = λ t h. rw (B.at t h) (length-set _ c 0 ∙ (G.wide t h).0, length-set _ c 0 ∙ (G.wide t h).1);
  node = λ t h. rw (B.at t h) (G.node t h);
  chosen = B.chosen ∙ G.chosen;
  pending = B.pending ∙ G.pending;
  waits = omega (arith, and_le_r rest (rest - 1), G.waits);
  done = λ t d h k n. rw (B.at t h) (go t d h k n (ℕ_discrete d c));
}
  where
    go : (t d : ℕ) → t < 8 → d < 48 → (Has (bit_and rest (rest - 1)) d → ⊥) → Dec (d ≡ c)
        → (get_or (set (thread_at team t).counts c 0) d 0 ≡ 0) × (get_or (set (thread_at team t).taken c 0) d 0 ≡ 0)
    go t d h k n (yes e) = rw e (get_or-set_same (thread_at team t).counts c 0 0 (omega (arith, (G.wide t h).0)), get_or-set_same (thread_at team t).taken c 0 0 (omega (arith, (G.wide t h).1)))
    go t d h k n (no e) =
        let z = G.done t d h k (λ g. n ((without-lowest l d).1 (g, e))) in
        (get_or-set_other (thread_at team t).counts c d 0 0 e ∙ z.0, get_or-set_other (thread_at team t).taken c d 0 0 e ∙ z.1)

pub setting-all : {old team : TeamTable} → Setting old 0 team → AllBack old (record { threads = team.threads; chosen = team.chosen; pending = team.pending; left = 0 })
setting-all G = record { long = G.long; wide = G.wide; node = G.node; chosen = G.chosen; pending = G.pending; none = refl; done = λ t c l k. G.done t c l k (has-none c) }

-- The first t threads have gone; the others are where they were.
pub record Going (t : ℕ) (old team : TeamTable) : Type 0 where
  pub long : length team.threads ≡ 8
  pub wide : (k : ℕ) → k < 8 → (length (thread_at team k).counts ≡ 48) × (length (thread_at team k).taken ≡ 48)
  pub went : (k : ℕ) → k < t → (thread_at team k).node ≡ get_or old.chosen k 0
  pub stayed : (k : ℕ) → t ≤ k → k < 8 → (thread_at team k).node ≡ (thread_at old k).node
  pub chosen : team.chosen ≡ old.chosen
  pub none : team.left ≡ 0
  pub done : (k c : ℕ) → k < 8 → c < 48 → (count_at team k c ≡ 0) × (taken_at team k c ≡ 0)

pub going-none : {old team : TeamTable} → AllBack old team → Going 0 old team
going-none B = record { long = B.long; wide = B.wide; went = λ k l. absurd (omega arith); stayed = λ k l h. B.node k h; chosen = B.chosen; none = B.none; done = B.done }

pub going_more : {t v : ℕ} {old team : TeamTable} → t < 8 → v ≡ get_or team.chosen t 0 → Going t old team
    → Going (t + 1) old (stored_thread team t (record { node = v; counts = (thread_at team t).counts; taken = (thread_at team t).taken }))
going_more {t} {v} {old} {team} l e G =
    let at : t < length team.threads = omega (arith, G.long) in
    record {
      long = length-set team.threads t _ ∙ G.long;
      wide = λ k h. at_thread (λ r. (length r.counts ≡ 48) × (length r.taken ≡ 48)) team.threads t _ k at (λ q. G.wide t l) (λ d. G.wide k h);
      went = λ k h. at_thread (λ r. r.node ≡ get_or old.chosen k 0) team.threads t _ k at (λ q. rw q (e ∙ ap (λ (n : List ℕ). get_or n t 0) G.chosen)) (λ d. G.went k (omega arith));
      stayed = λ k h i. at_thread (λ r. r.node ≡ (thread_at old k).node) team.threads t _ k at (λ q. absurd (omega arith)) (λ d. G.stayed k (omega arith) i);
      chosen = G.chosen;
      none = G.none;
      done = λ k c h i. at_thread (λ r. (get_or r.counts c 0 ≡ 0) × (get_or r.taken c 0 ≡ 0)) team.threads t _ k at (λ q. G.done t c l i) (λ d. G.done k c h i);
    }

-- all of the team have gone
pub shows-released : {m : ℕ} {old team : TeamTable} (σ : State) → Shows σ old → m ≤ 8 → ((t : ℕ) → t < m → get_or old.chosen t 0 < 256) → Going m old team
    → Shows (released m σ (λ t. get_or old.chosen t 0)) (record { threads = team.threads; chosen = team.chosen; pending = 0; left = team.left })
unfolding released
shows-released {m} {old} {team} σ S few low G = record {
  long = G.long;
  room = ap length G.chosen ∙ S.room;
  wide = G.wide;
  node = λ t l. node t l (dec_lt t m);
  byte = λ t l. byte t l (dec_lt t m);
  count = λ t c l k. (G.done t c l k).0;
  taken = λ t c l k. (G.done t c l k).1 ∙ sym (mask-empty (λ x. false) 48 (λ b j. refl));
  left = rw G.none (omega arith);
  others = λ t c l k n. G.done t c l k;
}
  where
    node : (t : ℕ) → t < 8 → Dec (t < m) → (thread_at team t).node ≡ (released m σ (λ t. get_or old.chosen t 0)).node t
    node t l (yes q) = rw (true-is (dec_lt t m) q) (G.went t q)
    node t l (no q) = rw (false-if {b = is (dec_lt t m)} (λ h. q (is_true (dec_lt t m) h))) (G.stayed t (omega arith) l ∙ S.node t l)

    byte : (t : ℕ) → t < 8 → Dec (t < m) → (thread_at team t).node < 256
    byte t l (yes q) = rw (G.went t q) (low t q)
    byte t l (no q) = rw (G.stayed t (omega arith) l) (S.byte t l)
