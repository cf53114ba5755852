-- What a store does to the state that a team's table shows.
-- Assumes nothing.
use mathlib.Core.Path.{◌≡◌, refl, sym, ◌∙◌, ap, subst}
use mathlib.Core.Logic.{◌⊎◌, inl, inr}
use mathlib.Core.Bool.{Bool, true, false}
use mathlib.Core.List.{List}
use Prim.Native.Nat.{ℕ, suc, ◌+◌, ◌^◌, ◌<◌}
use native.Mathlib.Omega.{arith}
use native.Mathlib.Decide.{ℕ_discrete}
use native.Mathlib.Numerals.{add-one}
use lib.Bits.{bit_or, or_lt}
use lib.Pow.{pow-lt}
use lib.ListN.{length, get_or, set, length-set}
use lib.Seq.{get_or-set_same, get_or-set_other}
use Rattle.lists.specs.Mask.{Has, Mask, mask_of, mask-of, mask_is, mask-either, has-own, has-pow, or_left, or_right}
use Rattle.lists.specs.Bits.{mask-empty}
use Rattle.lists.specs.Store.{at_set}
use Rattle.theory_team.specs.State.{State, update, moved, left, took}
use Rattle.theory_team.proofs.Laws.{update-at, update-off}
use Rattle.theory_traces.specs.declared.Thread.{Thread}
use Rattle.theory_traces.specs.Decide.{apply}
use Rattle.theory_traces.specs.declared.Effect.{Effect}
use Rattle.answer_steps.specs.declared.tables.TeamTable.{TeamTable}
use Rattle.answer_steps.specs.Teams.{unknown, thread_at, count_at, taken_at}
use Rattle.answer_steps.specs.Tables.{Shows}

pub pair-at : {A : Type 0} (f : ℕ → ℕ → A) (t c : ℕ) (v : A) (k d : ℕ) → k ≡ t → d ≡ c → update f t (update (f t) c v) k d ≡ v
pair-at f t c v k d p q = rw (p, q, update-at f t (update (f t) c v), update-at (f t) c v) refl

pub pair-off : {A : Type 0} (f : ℕ → ℕ → A) (t c : ℕ) (v : A) (k d : ℕ) → (k ≡ t → d ≡ c → ⊥) → update f t (update (f t) c v) k d ≡ f k d
pair-off {A} f t c v k d n = go (ℕ_discrete k t)
  where
    go : Dec (k ≡ t) → update f t (update (f t) c v) k d ≡ f k d
    go (yes p) = rw (p, update-at f t (update (f t) c v)) (update-off (f t) c v d (n p))
    go (no p) = ap (λ (g : ℕ → A). g d) (update-off f t (update (f t) c v) k p)

-- one bit more
bit-more : (f : ℕ → Bool) (k x : ℕ) → x < k → bit_or (mask_of f k) (2 ^ x) ≡ mask_of (update f x true) k
bit-more f k x l = mask_is (update f x true) to from (mask-either (mask-of f k) one)
  where
    one : Mask (λ b. b ≡ x) k (2 ^ x)
    one = record { small = pow-lt l; only = λ b j h. has-pow x b h; all = λ b j e. rw e (has-own x) }

    to : (b : ℕ) → b < k → (f b ≡ true) ⊎ (b ≡ x) → update f x true b ≡ true
    to b j (inl h) = elim (ℕ_discrete b x) [ yes e ↦ rw (e, update-at f x true) refl | no e ↦ update-off f x true b e ∙ h ]
    to b j (inr e) = rw (e, update-at f x true) refl

    from : (b : ℕ) → b < k → update f x true b ≡ true → (f b ≡ true) ⊎ (b ≡ x)
    from b j h = elim (ℕ_discrete b x) [ yes e ↦ inr e | no e ↦ inl (sym (update-off f x true b e) ∙ h) ]

-- The table once thread t has this record, and these constructs are set back.
abbrev pub with_thread : TeamTable → ℕ → Thread → ℕ → TeamTable
with_thread team t w k = record { threads = set team.threads t w; chosen = team.chosen; pending = team.pending; left = k }

-- a thread after a store, by cases on whether it is the one that was stored
pub at_thread : (P : Thread → Type 0) (l : List Thread) (t : ℕ) (w : Thread) (j : ℕ) → t < length l → (j ≡ t → P w) → ((j ≡ t → ⊥) → P (get_or l j unknown))
    → P (get_or (set l t w) j unknown)
at_thread P l t w j h f g = go (ℕ_discrete j t)
  where
    go : Dec (j ≡ t) → P (get_or (set l t w) j unknown)
    go (yes e) = rw (e, get_or-set_same l t w unknown h) (f e)
    go (no n) = rw (get_or-set_other l t j w unknown n) (g n)

-- What a record says of thread t in a state.
pub record Says (σ : State) (t : ℕ) (w : Thread) : Type 0 where
  pub wide : (length w.counts ≡ 48) × (length w.taken ≡ 48)
  pub node : w.node ≡ σ.node t
  pub byte : w.node < 256
  pub count : (c : ℕ) → c < 48 → get_or w.counts c 0 ≡ σ.encounters t c
  pub taken : (c : ℕ) → c < 48 → get_or w.taken c 0 ≡ mask_of (σ.taken t c) 48

-- The other threads are in both states as they are in one.
pub record Others (t : ℕ) (σ τ : State) : Type 0 where
  pub node : (k : ℕ) → (k ≡ t → ⊥) → τ.node k ≡ σ.node k
  pub count : (k : ℕ) → (k ≡ t → ⊥) → τ.encounters k ≡ σ.encounters k
  pub taken : (k : ℕ) → (k ≡ t → ⊥) → τ.taken k ≡ σ.taken k

pub says : {σ : State} {team : TeamTable} → Shows σ team → (t : ℕ) → t < 8 → Says σ t (thread_at team t)
says S t l = record { wide = S.wide t l; node = S.node t l; byte = S.byte t l; count = λ c k. S.count t c l k; taken = λ c k. S.taken t c l k }

-- one thread's record is stored; where it counts or has taken something, a release sets that back
pub shows-with : {σ τ : State} {team : TeamTable} → Shows σ team → {t : ℕ} → t < 8 → (w : Thread) (k : ℕ) → Others t σ τ → Says τ t w → k < 2 ^ 48
    → ((c : ℕ) → Has team.left c → Has k c) → ((c : ℕ) → c < 48 → (Has k c → ⊥) → (get_or w.counts c 0 ≡ 0) × (get_or w.taken c 0 ≡ 0))
    → Shows τ (with_thread team t w k)
shows-with {σ} {τ} {team} S {t} l w k O W small more none =
    let at : t < length team.threads = omega (arith, S.long) in
    record {
      long = length-set team.threads t w ∙ S.long;
      room = S.room;
      wide = λ j i. at_thread (λ r. (length r.counts ≡ 48) × (length r.taken ≡ 48)) team.threads t w j at (λ e. W.wide) (λ d. S.wide j i);
      node = λ j i. at_thread (λ r. r.node ≡ τ.node j) team.threads t w j at (λ e. rw e W.node) (λ d. S.node j i ∙ sym (O.node j d));
      byte = λ j i. at_thread (λ r. r.node < 256) team.threads t w j at (λ e. W.byte) (λ d. S.byte j i);
      count = λ j c i h. at_thread (λ r. get_or r.counts c 0 ≡ τ.encounters j c) team.threads t w j at (λ e. rw e (W.count c h))
          (λ d. S.count j c i h ∙ ap (λ (f : ℕ → ℕ). f c) (sym (O.count j d)));
      taken = λ j c i h. at_thread (λ r. get_or r.taken c 0 ≡ mask_of (τ.taken j c) 48) team.threads t w j at (λ e. rw e (W.taken c h))
          (λ d. S.taken j c i h ∙ ap (λ (f : ℕ → ℕ → Bool). mask_of (f c) 48) (sym (O.taken j d)));
      left = small;
      others = λ j c i h n. at_thread (λ r. (get_or r.counts c 0 ≡ 0) × (get_or r.taken c 0 ≡ 0)) team.threads t w j at (λ e. none c h n)
          (λ d. S.others j c i h (λ g. n (more c g)));
    }

module _ {σ : State} {team : TeamTable} (S : Shows σ team) (t : ℕ) (l : t < 8) where
  abbrev was : Thread
  was = thread_at team t

  pub shows-moved : (v : ℕ) → v < 256 → Shows (moved σ t v) (with_thread team t (record { node = v; counts = was.counts; taken = was.taken }) team.left)
  unfolding moved
  shows-moved v b = shows-with S l _ team.left
      (record { node = λ k d. update-off σ.node t v k d; count = λ k d. refl; taken = λ k d. refl })
      (record { wide = S.wide t l; node = sym (update-at σ.node t v); byte = b; count = λ c k. S.count t c l k; taken = λ c k. S.taken t c l k })
      S.left (λ c h. h) (λ c h n. S.others t c l h n)

  module _ (c : ℕ) (m : c < 48) where
    abbrev noted : ℕ
    noted = bit_or team.left (2 ^ c)

    small : noted < 2 ^ 48
    small = or_lt 48 team.left (2 ^ c) S.left (pow-lt m)

    -- nothing is counted and nothing taken of a construct that is not noted
    none : (f : List ℕ) (v d : ℕ) → d < 48 → (Has noted d → ⊥) → length f ≡ 48 → get_or f d 0 ≡ 0 → get_or (set f c v) d 0 ≡ 0
    none f v d h n long z = at_set (λ i. i ≡ 0) f c v d (omega arith) (λ e. absurd (n (or_right team.left (2 ^ c) d (rw e (has-own c))))) (λ u. z)

    pub shows_left : (v : ℕ) → v < 256
        → Shows (left σ t c v) (with_thread team t (record { node = v; counts = set was.counts c (count_at team t c + 1); taken = set was.taken c 0 }) noted)
    unfolding left
    shows_left v b =
        let (wide, broad) = S.wide t l in
        shows-with S l _ noted
        (record {
          node = λ k d. update-off σ.node t v k d;
          count = λ k d. update-off σ.encounters t _ k d;
          taken = λ k d. update-off σ.taken t _ k d;
        })
        (record {
          wide = (length-set was.counts c _ ∙ wide, length-set was.taken c 0 ∙ broad);
          node = sym (update-at σ.node t v);
          byte = b;
          count = λ d h. rw (update-at σ.encounters t _) (at_set (λ i. i ≡ update (σ.encounters t) c (suc (σ.encounters t c)) d) was.counts c _ d (omega (arith, wide))
              (λ e. rw (e, update-at (σ.encounters t) c (suc (σ.encounters t c)), ← S.count t c l m) (add-one _)) (λ u. S.count t d l h ∙ sym (update-off (σ.encounters t) c _ d u)));
          taken = λ d h. rw (update-at σ.taken t _) (at_set (λ i. i ≡ mask_of (update (σ.taken t) c (λ x. false) d) 48) was.taken c 0 d (omega (arith, broad))
              (λ e. rw (e, update-at (σ.taken t) c (λ x. false)) (sym (mask-empty (λ x. false) 48 (λ b j. refl))))
              (λ u. S.taken t d l h ∙ ap (λ (f : ℕ → Bool). mask_of f 48) (sym (update-off (σ.taken t) c (λ x. false) d u))));
        })
        small (λ d h. or_left team.left (2 ^ c) d h)
        (λ d h n. let old = S.others t d l h (λ g. n (or_left team.left (2 ^ c) d g)) in (none was.counts _ d h n wide old.0, none was.taken _ d h n broad old.1))

    pub shows-took : (x : ℕ) → x < 48
        → Shows (took σ t c x) (with_thread team t (record { node = was.node; counts = was.counts; taken = set was.taken c (bit_or (taken_at team t c) (2 ^ x)) }) noted)
    unfolding took
    shows-took x b =
        let (wide, broad) = S.wide t l in
        shows-with S l _ noted
        (record { node = λ k d. refl; count = λ k d. refl; taken = λ k d. update-off σ.taken t _ k d })
        (record {
          wide = (wide, length-set was.taken c _ ∙ broad);
          node = S.node t l;
          byte = S.byte t l;
          count = λ d h. S.count t d l h;
          taken = λ d h. rw (update-at σ.taken t _) (at_set (λ i. i ≡ mask_of (update (σ.taken t) c (update (σ.taken t c) x true) d) 48) was.taken c _ d (omega (arith, broad))
              (λ e. rw (e, update-at (σ.taken t) c (update (σ.taken t c) x true), S.taken t c l m) (bit-more (σ.taken t c) 48 x b))
              (λ u. S.taken t d l h ∙ ap (λ (f : ℕ → Bool). mask_of f 48) (sym (update-off (σ.taken t) c _ d u))));
        })
        small (λ d h. or_left team.left (2 ^ c) d h)
        (λ d h n. let old = S.others t d l h (λ g. n (or_left team.left (2 ^ c) d g)) in (old.0, none was.taken _ d h n broad old.1))

-- the effect is a known one
pub applied : (σ : State) (t v : ℕ) {e f : Effect} {team : TeamTable} → e ≡ f → Shows (apply σ t v f) team → Shows (apply σ t v e) team
applied σ t v {team = team} q S = subst (λ (e : Effect). Shows (apply σ t v e) team) (sym q) S
