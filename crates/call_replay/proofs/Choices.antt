-- What an entry does to what the replay keeps.
-- Assumes nothing.
use mathlib.Core.Path.{◌≡◌, refl, sym, ◌∙◌, ap, subst}
use mathlib.Core.Logic.{◌⊎◌, inl, inr}
use mathlib.Core.Bool.{Bool, true, false, ◌||◌}
use mathlib.Core.List.{List, [], ◌∷◌, ◌++◌}
use mathlib.Core.Option.{Option, none, some}
use Prim.Native.Nat.{ℕ, ◌+◌, ◌*◌, ◌≤◌, ◌<◌}
use native.Mathlib.Omega.{arith}
use native.Mathlib.Decide.{ℕ_discrete, dec_lt}
use lib.ListN.{length, get_or, set, length-set, length-append, get_or-append}
use lib.Seq.{get_or-append_seam, get_or-set_same}
use borrow.Author.Tests.{eq-eqb, ne_eqb, le-ltb}
use Rattle.lists.specs.Truth.{bad, clash, and-false, or_right}
use Rattle.lists.specs.Store.{at_set}
use Rattle.chart.specs.Region.{Region}
use Rattle.theory_team.specs.State.{State, released}
use Rattle.theory_traces.specs.Decide.{decide, apply, allowed}
use Rattle.theory_traces.specs.Replay.{Play, together, reached, gathered, chosen_now, choose, stepped, feed}
use Rattle.theory_traces.proofs.ReplayLaws.{together-of}
use Rattle.answer_steps.specs.declared.tables.TeamTable.{TeamTable}
use Rattle.answer_steps.specs.Tables.{Shows}
use Rattle.call_replay.specs.PairsMet.{Sheet}
use Rattle.call_replay.specs.declared.pairs_met.Rows.{Rows}
use Rattle.call_replay.specs.Playing.{Playing, After, forbidden, fed}

-- what an entry leads to, by an equation
pub after-by : {R : Region} {m : ℕ} {rows : Rows} {P : Play} {o q : Option Play} {b : Bool} {team : TeamTable} {out : List ℕ} → o ≡ q → After R m rows P q b team out → After R m rows P o b team out
after-by {R} {m} {rows} {P} {b = b} {team = team} {out = out} e A = subst (λ (o : Option Play). After R m rows P o b team out) (sym e) A

module _ (R : Region) (m : ℕ) (P : Play) (t v : ℕ) where
  pub choose-other : (t ≡ length P.chosen → ⊥) → choose R m P t v ≡ none
  unfolding choose
  choose-other d = rw (ne_eqb t (length P.chosen) d)

  pub choose-off : R.edge (P.state.node 0) v ≡ false → choose R m P t v ≡ none
  unfolding choose
  choose-off h = rw (h, and-false)

  module _ (q : t ≡ length P.chosen) (h : R.edge (P.state.node 0) v ≡ true) where
    long : length (P.chosen ++ (v ∷ [])) ≡ length P.chosen + 1
    long = length-append P.chosen (v ∷ [])

    pub choose-last : length P.chosen + 1 ≡ m
        → choose R m P t v ≡ some (reached m P.met (released m P.state (λ k. get_or (P.chosen ++ (v ∷ [])) k 0)))
    unfolding choose chosen_now
    choose-last e = rw (eq-eqb t (length P.chosen) q, h, eq-eqb _ m (long ∙ e))

    pub choose-next : (length P.chosen + 1 ≡ m → ⊥)
        → choose R m P t v ≡ some (record { state = P.state; chosen = P.chosen ++ (v ∷ []); met = P.met })
    unfolding choose chosen_now
    choose-next d = rw (eq-eqb t (length P.chosen) q, h, ne_eqb _ m (λ e. d (sym long ∙ e)))

  pub fed-choose : gathered R m P.state ≡ true → feed R m P t v ≡ choose R m P t v
  unfolding feed
  fed-choose g = rw g

  pub fed-none : gathered R m P.state ≡ false → allowed (decide R m P.state t v) ≡ false → feed R m P t v ≡ none
  unfolding feed stepped
  fed-none g h = rw (g, h)

  pub fed-step : gathered R m P.state ≡ false → allowed (decide R m P.state t v) ≡ true
      → feed R m P t v ≡ some (reached m P.met (apply P.state t v (decide R m P.state t v)))
  unfolding feed stepped
  fed-step g h = rw (g, h)

  -- the rules allow nothing to a thread that is none of the team
  pub allowed-in : allowed (decide R m P.state t v) ≡ true → t < m
  unfolding decide allowed
  allowed-in h = elim (dec_lt t m) [ yes l ↦ l | no l ↦ absurd (bad (cc (rw (le-ltb t m (omega arith)) at h))) ]

-- what is chosen is no part of the state
pub shows-past : {σ : State} {team : TeamTable} (nodes : List ℕ) (k : ℕ) → length nodes ≡ 8 → Shows σ team
    → Shows σ (record { threads = team.threads; chosen = nodes; pending = k; left = team.left })
shows-past nodes k l S = record {
  long = S.long;
  room = l;
  wide = S.wide;
  node = S.node;
  byte = S.byte;
  count = S.count;
  taken = S.taken;
  left = S.left;
  others = S.others;
}

module _ {R : Region} {m : ℕ} {rows : Rows} {P : Play} {team : TeamTable} {out : List ℕ} (L : Playing R m rows P team out) (few : m ≤ 8) (p v : ℕ) (q : p ≡ length P.chosen) where
  -- the node that is chosen last
  at : p < length team.chosen
  at = omega (arith, L.state.room, L.fewer)

  less : (t : ℕ) → t < length P.chosen + 1 → (t ≡ p → ⊥) → t < length P.chosen
  less t l d = elim (ℕ_discrete t (length P.chosen)) [ yes e ↦ absurd (d (omega arith)) | no e ↦ omega arith ]

  pub choice-more : (t : ℕ) → t < length P.chosen + 1 → get_or (set team.chosen p v) t 0 ≡ get_or (P.chosen ++ (v ∷ [])) t 0
  choice-more t l = at_set (λ i. i ≡ get_or (P.chosen ++ (v ∷ [])) t 0) team.chosen p v t at
      (λ e. let d : t ≡ length P.chosen = omega arith in sym (ap (λ (i : ℕ). get_or (P.chosen ++ (v ∷ [])) i 0) d ∙ get_or-append_seam P.chosen v [] 0))
      (λ d. L.choice t (less t l d) ∙ sym (get_or-append P.chosen (v ∷ []) 0 t (less t l d)))

  pub bytes-more : v < 256 → (t : ℕ) → t < length P.chosen + 1 → get_or (set team.chosen p v) t 0 < 256
  bytes-more b t l = at_set (λ i. i < 256) team.chosen p v t at (λ e. b) (λ d. L.bytes t (less t l d))

  -- the table with it, and this many chosen
  abbrev pub with_choice : ℕ → TeamTable
  with_choice k = record { threads = team.threads; chosen = set team.chosen p v; pending = k; left = team.left }

  pub shows-chosen : (k : ℕ) → Shows P.state (with_choice k)
  shows-chosen k = shows-past (set team.chosen p v) k (length-set team.chosen p v ∙ L.state.room) L.state

  -- one entry of a release, not its last
  pub playing-chosen : gathered R m P.state ≡ true → v < 256 → (length P.chosen + 1 ≡ m → ⊥) → (w : ℕ) → w ≡ p + 1
      → Playing R m rows (record { state = P.state; chosen = P.chosen ++ (v ∷ []); met = P.met }) (with_choice w) out
  playing-chosen g b d w e =
      let long = length-append P.chosen (v ∷ []) in
      record {
        state = shows-chosen w;
        pending = omega (arith, long);
        fewer = fits long;
        choice = λ t l. choice-more t (omega (arith, long));
        bytes = λ t l. bytes-more b t (omega (arith, long));
        due = λ l. g;
        marks = L.marks;
        own = L.own;
      }
    where
      fits : length (P.chosen ++ (v ∷ [])) ≡ length P.chosen + 1 → length (P.chosen ++ (v ∷ [])) < m
      fits long = elim (ℕ_discrete (length P.chosen + 1) m) [ yes h ↦ absurd (d h) | no h ↦ omega (arith, L.fewer) ]

-- a state is reached
pub playing-reached : {R : Region} {m : ℕ} {rows : Rows} {team : TeamTable} {out : List ℕ} (met : ℕ → ℕ → Bool) (σ : State) → 0 < m → Shows σ team → team.pending ≡ 0
    → Sheet R.nodes rows (λ a b. met a b || together m σ a b) out → Playing R m rows (reached m met σ) team out
unfolding reached
playing-reached {m = m} met σ l S z H = record {
  state = S;
  pending = z;
  fewer = l;
  choice = λ t k. absurd (omega arith);
  bytes = λ t k. absurd (omega arith);
  due = λ k. absurd (omega arith);
  marks = H;
  own = λ a b h. or_right (met a b) _ ((together-of m σ a b).1 h);
}

-- whether an entry was fed tells which of the two it led to
pub after_none : {R : Region} {m : ℕ} {rows : Rows} {P : Play} {o : Option Play} {b : Bool} {team : TeamTable} {out : List ℕ} → After R m rows P o b team out → b ≡ false → (o ≡ none) × Playing R m rows P team out
after_none (forbidden L) h = (refl, L)
after_none (fed L) h = absurd (clash refl h)

pub after-some : {R : Region} {m : ℕ} {rows : Rows} {P : Play} {o : Option Play} {b : Bool} {team : TeamTable} {out : List ℕ} → After R m rows P o b team out → b ≡ true
    → (Q : Play) × (o ≡ some Q) × Playing R m rows Q team out
after-some (forbidden L) h = absurd (clash h refl)
after-some (fed {Q} L) h = (Q, refl, L)

pub fed-at : (R : Region) (m : ℕ) (P : Play) {t v u w : ℕ} → t ≡ u → v ≡ w → feed R m P u w ≡ feed R m P t v
fed-at R m P p q = rw (p, q)
