-- First consequences of the team rules: what a step changes and what it leaves, who leaves a barrier, who enters a single, and what a
-- concurrent pair needs. Those for sections are in proofs/SectionLaws.antt.
-- Assumes nothing.
use Rattle.std.specs.Prelude.{◌≡◌, ◌⊎◌, ◌≢◌, true, ℕ, suc, ◌≤◌, ◌<◌}
use Rattle.std.proofs.Math.Path.{refl}
use Rattle.std.proofs.Common.{ap, sym, ◌∙◌, subst, inr, arith}
use Rattle.std.proofs.Math.Logic.{inl}
use Rattle.std.proofs.Math.Decide.{ℕ_discrete, dec_lt}
use Rattle.lists.specs.Truth.{bad, true-is, is_true, false-if}
use Rattle.chart.specs.Region.{Role, plain, barrier, opens, closes, single, sections, Region}
use Rattle.theory_team.specs.State.{State, initial, update, moved, left, took, released}
use Rattle.theory_team.specs.Step.{MayEnter, MayMove, ThreadStep, move, enter, pass, again, take, take_next, Step, one, release}
use Rattle.theory_team.specs.Run.{Run, ConcurrentIn}

pub update-at : {A : Type 0} (f : ℕ → A) (i : ℕ) (v : A) → update f i v i ≡ v
unfolding update
update-at f i v = rw (true-is (ℕ_discrete i i) refl)

pub update-off : {A : Type 0} (f : ℕ → A) (i : ℕ) (v : A) (k : ℕ) → k ≢ i → update f i v k ≡ f k
unfolding update
update-off f i v k n = rw (false-if (λ h. n (is_true (ℕ_discrete k i) h)))

pub released-at : (m : ℕ) (σ : State) (to : ℕ → ℕ) (t : ℕ) → t < m → (released m σ to).node t ≡ to t
unfolding released
released-at m σ to t l = rw (true-is (dec_lt t m) l)

pub released-count : (m : ℕ) (σ : State) (to : ℕ → ℕ) (t c : ℕ) → (released m σ to).encounters t c ≡ 0
unfolding released
released-count m σ to t c = refl

pub one-construct : {r : Role} {c d : ℕ} → r ≡ opens c → r ≡ opens d → c ≡ d
one-construct p q = cc

pub move-no-barrier : (R : Region) (m : ℕ) (σ : State) (t : ℕ) (r : Role) → MayMove R m σ t r → r ≢ barrier
move-no-barrier R m σ t plain h q = bad (cc)
move-no-barrier R m σ t barrier h q = h
move-no-barrier R m σ t (opens c) h q = bad (cc)
move-no-barrier R m σ t (closes c) h q = bad (cc)

pub move-no-begin : (R : Region) (m : ℕ) (σ : State) (t : ℕ) (r : Role) (c : ℕ) → MayMove R m σ t r → r ≢ opens c
move-no-begin R m σ t plain c h q = bad (cc)
move-no-begin R m σ t barrier c h q = bad (cc)
move-no-begin R m σ t (opens d) c h q = h
move-no-begin R m σ t (closes d) c h q = bad (cc)

-- The count of c goes up by one where the thread leaves c's begin, and stays elsewhere.
abbrev pub Counted : Region → State → State → ℕ → ℕ → Type 0
Counted R σ τ t c =
    ((R.role (σ.node t) ≢ opens c) × (τ.encounters t c ≡ σ.encounters t c))
    ⊎ ((R.role (σ.node t) ≡ opens c) × (τ.encounters t c ≡ suc (σ.encounters t c)))

left-counted : (R : Region) (σ : State) (t v : ℕ) {c : ℕ} → R.role (σ.node t) ≡ opens c → (d : ℕ) → Dec (d ≡ c) → Counted R σ (left σ t c v) t d
unfolding left
left-counted R σ t v h d (yes q) = inr ((cc), rw (update-at, q, update-at))
left-counted R σ t v h d (no q) = inl ((λ g. q (one-construct g h)), rw (update-at, update-off))

took-counted : (R : Region) (σ τ : State) (t c x d : ℕ) → Counted R σ τ t d → Counted R σ (took τ t c x) t d
unfolding took
took-counted R σ τ t c x d h = h

-- What thread t has taken stays as it was, but for a construct whose begin it leaves, or is taken now.
abbrev pub KeptOrTaken : Region → State → State → ℕ → ℕ → ℕ → Type 0
KeptOrTaken R σ τ t c x = (τ.taken t c x ≡ σ.taken t c x) ⊎ ((R.role (σ.node t) ≡ opens c) ⊎ (τ.taken t c x ≡ true))

left-taken : (R : Region) (σ : State) (t v : ℕ) {c : ℕ} → R.role (σ.node t) ≡ opens c → (d x : ℕ) → Dec (d ≡ c) → KeptOrTaken R σ (left σ t c v) t d x
unfolding left
left-taken R σ t v h d x (yes q) = inr (inl (cc))
left-taken R σ t v h d x (no q) = inl (rw (update-at, update-off))

pub took-at : (σ : State) (t c x : ℕ) → (took σ t c x).taken t c x ≡ true
unfolding took
took-at σ t c x = rw (update-at, update-at, update-at)

-- what a section taken leaves as it was: the other sections, the other constructs, the other threads
pub took-off : (σ : State) (t c x k d y : ℕ) → (k ≢ t) ⊎ ((d ≢ c) ⊎ (y ≢ x)) → (took σ t c x).taken k d y ≡ σ.taken k d y
unfolding took
took-off σ t c x k d y n = go (ℕ_discrete k t) (ℕ_discrete d c) (ℕ_discrete y x) n
  where
    go : Dec (k ≡ t) → Dec (d ≡ c) → Dec (y ≡ x) → (k ≢ t) ⊎ ((d ≢ c) ⊎ (y ≢ x))
        → update σ.taken t (update (σ.taken t) c (update (σ.taken t c) x true)) k d y ≡ σ.taken k d y
    go (no p) q r n = rw update-off
    go (yes p) (no q) r n = rw (p, update-at, update-off)
    go (yes p) (yes q) (no r) n = rw (p, update-at, q, update-at, update-off)
    go (yes p) (yes q) (yes r) n = absurd (elim n [ inl a ↦ a p | inr (inl a) ↦ a q | inr (inr a) ↦ a r ])

took-taken : (R : Region) (σ τ : State) (t c x d y : ℕ) → KeptOrTaken R σ τ t d y → KeptOrTaken R σ (took τ t c x) t d y
took-taken R σ τ t c x d y h = go (ℕ_discrete d c) (ℕ_discrete y x) h
  where
    on : (took τ t c x).taken t d y ≡ τ.taken t d y → KeptOrTaken R σ τ t d y → KeptOrTaken R σ (took τ t c x) t d y
    on e (inl h) = inl (e ∙ h)
    on e (inr (inl h)) = inr (inl h)
    on e (inr (inr h)) = inr (inr (e ∙ h))

    go : Dec (d ≡ c) → Dec (y ≡ x) → KeptOrTaken R σ τ t d y → KeptOrTaken R σ (took τ t c x) t d y
    go (yes p) (yes q) h = inr (inr (rw (p, q) (took-at τ t c x)))
    go (yes p) (no q) h = on (took-off τ t c x t d y (inr (inr q))) h
    go (no p) q h = on (took-off τ t c x t d y (inr (inl p))) h

module _ {R : Region} {m : ℕ} {σ : State} {t v : ℕ} where
  pub counted : {τ : State} → ThreadStep R m σ t v τ → (c : ℕ) → Counted R σ τ t c
  unfolding moved
  counted (move h e) c = inl (move-no-begin R m σ t (R.role (σ.node t)) c h, refl)
  counted (enter {c = d} h g e) c = left-counted R σ t v h c (ℕ_discrete c d)
  counted (pass {c = d} h g e) c = left-counted R σ t v h c (ℕ_discrete c d)
  counted (again h l e) c = inl ((λ q. bad (cc)), refl)
  counted (take {c = d} {x} h k p u e) c = took-counted R σ (left σ t d v) t d x c (left-counted R σ t v h c (ℕ_discrete c d))
  counted (take_next {c = d} {x} h k p u e) c = took-counted R σ (moved σ t v) t d x c (inl ((λ q. bad (cc)), refl))

  -- a step of one thread brings it to its target and leaves the others as they were
  pub arrives : {τ : State} → ThreadStep R m σ t v τ → τ.node t ≡ v
  unfolding moved left took
  arrives (move h e) = update-at σ.node t v
  arrives (enter h g e) = update-at σ.node t v
  arrives (pass h g e) = update-at σ.node t v
  arrives (again h l e) = update-at σ.node t v
  arrives (take h k p u e) = update-at σ.node t v
  arrives (take_next h k p u e) = update-at σ.node t v

  pub node_kept : {τ : State} → ThreadStep R m σ t v τ → (k : ℕ) → k ≢ t → τ.node k ≡ σ.node k
  unfolding moved left took
  node_kept (move h e) k n = update-off σ.node t v k n
  node_kept (enter h g e) k n = update-off σ.node t v k n
  node_kept (pass h g e) k n = update-off σ.node t v k n
  node_kept (again h l e) k n = update-off σ.node t v k n
  node_kept (take h j p u e) k n = update-off σ.node t v k n
  node_kept (take_next h j p u e) k n = update-off σ.node t v k n

  pub count_kept : {τ : State} → ThreadStep R m σ t v τ → (k : ℕ) → k ≢ t → (c : ℕ) → τ.encounters k c ≡ σ.encounters k c
  unfolding moved left took
  count_kept (move h e) k n c = refl
  count_kept (enter h g e) k n c = rw update-off
  count_kept (pass h g e) k n c = rw update-off
  count_kept (again h l e) k n c = refl
  count_kept (take h j p u e) k n c = rw update-off
  count_kept (take_next h j p u e) k n c = refl

  pub taken-kept : {τ : State} → ThreadStep R m σ t v τ → (k : ℕ) → k ≢ t → (c x : ℕ) → τ.taken k c x ≡ σ.taken k c x
  unfolding moved left
  taken-kept (move h e) k n c x = refl
  taken-kept (enter h g e) k n c x = rw update-off
  taken-kept (pass h g e) k n c x = rw update-off
  taken-kept (again h l e) k n c x = refl
  taken-kept (take {c = d} {x = y} h j p u e) k n c x = took-off (left σ t d v) t d y k c x (inl n) ∙ rw update-off
  taken-kept (take_next {c = d} {x = y} h j p u e) k n c x = took-off (moved σ t v) t d y k c x (inl n)

  -- and keeps what the thread itself has taken, but in a construct whose begin it leaves
  pub own-taken : {τ : State} → ThreadStep R m σ t v τ → (c x : ℕ) → KeptOrTaken R σ τ t c x
  unfolding moved
  own-taken (move h e) c x = inl refl
  own-taken (enter {c = d} h g e) c x = left-taken R σ t v h c x (ℕ_discrete c d)
  own-taken (pass {c = d} h g e) c x = left-taken R σ t v h c x (ℕ_discrete c d)
  own-taken (again h l e) c x = inl refl
  own-taken (take {c = d} {x = y} h j p u e) c x = took-taken R σ (left σ t d v) t d y c x (left-taken R σ t v h c x (ℕ_discrete c d))
  own-taken (take_next {c = d} {x = y} h j p u e) c x = took-taken R σ (moved σ t v) t d y c x (inl refl)

  -- a begin is left straight to the end, by the rule of its kind, or for a section
  pub enters : {τ : State} {c : ℕ} → ThreadStep R m σ t v τ → R.role (σ.node t) ≡ opens c
      → (v ≡ R.end c) ⊎ (MayEnter R m σ t c (R.kind c) ⊎ (R.kind c ≡ sections))
  enters {c = c} (move h e) w = absurd (move-no-begin R m σ t (R.role (σ.node t)) c h w)
  enters (enter h g e) w = inr (inl (subst (λ (d : ℕ). MayEnter R m σ t d (R.kind d)) (one-construct h w) g))
  enters (pass h g e) w = inl (e ∙ ap R.end (one-construct h w))
  enters (again h l e) w = absurd (bad (cc))
  enters (take h k p u e) w = inr (inr (ap R.kind (one-construct w h) ∙ k))
  enters (take_next h k p u e) w = absurd (bad (cc))

  pub no-barrier : {τ : State} → ThreadStep R m σ t v τ → R.role (σ.node t) ≢ barrier
  no-barrier (move h e) = move-no-barrier R m σ t (R.role (σ.node t)) h
  no-barrier (enter h g e) = λ q. bad (cc)
  no-barrier (pass h g e) = λ q. bad (cc)
  no-barrier (again h l e) = λ q. bad (cc)
  no-barrier (take h k p u e) = λ q. bad (cc)
  no-barrier (take_next h k p u e) = λ q. bad (cc)

-- One thread goes into an instance of a single: the thread that leaves its begin for another node than its end has now left it more often
-- than any other has.
pub single-entered : {R : Region} {m : ℕ} {σ τ : State} {t v c : ℕ} → ThreadStep R m σ t v τ → R.role (σ.node t) ≡ opens c → R.kind c ≡ single
    → v ≢ R.end c → (k : ℕ) → k < m → k ≢ t → τ.encounters k c < τ.encounters t c
single-entered {R} {m} {σ} {τ} {t} {v} {c} s w q n k l d = go (enters s w) (counted s c)
  where
    go : (v ≡ R.end c) ⊎ (MayEnter R m σ t c (R.kind c) ⊎ (R.kind c ≡ sections)) → Counted R σ τ t c → τ.encounters k c < τ.encounters t c
    go (inl z) h = absurd (n z)
    go (inr (inr z)) h = absurd (bad (cc))
    go (inr (inl g)) (inl h) = absurd (h.0 w)
    go (inr (inl g)) (inr h) = let f : MayEnter R m σ t c single = subst (MayEnter R m σ t c) q g in omega (arith, f k l, h.1, count_kept s k d c)

-- No thread leaves a barrier alone: it stays there, or all stand there with it.
pub leaves-together : {R : Region} {m : ℕ} {σ τ : State} → Step R m σ τ → (t : ℕ) → t < m → R.role (σ.node t) ≡ barrier
    → (τ.node t ≡ σ.node t) ⊎ ((k : ℕ) → k < m → σ.node k ≡ σ.node t)
leaves-together {R} {m} {σ} (one {t = u} {τ = τ} l s) t i b = go (ℕ_discrete t u)
  where
    go : Dec (t ≡ u) → (τ.node t ≡ σ.node t) ⊎ ((k : ℕ) → k < m → σ.node k ≡ σ.node t)
    go (yes q) = absurd (no-barrier s (ap (λ (k : ℕ). R.role (σ.node k)) (sym q) ∙ b))
    go (no n) = inl (node_kept s t n)
leaves-together (release x to h n all edges) t i b = inr (λ k l. all k l ∙ sym (all t i))

-- A concurrent pair has two threads, and a run at whose end every thread is at finish.
pub two-threads : {R : Region} {m a b : ℕ} → ConcurrentIn R m a b → 2 ≤ m
two-threads M = omega arith

pub all-finish : {R : Region} {m a b : ℕ} → ConcurrentIn R m a b → (τ : State) × Run R m (initial R) τ × ((t : ℕ) → t < m → τ.node t ≡ R.finish)
all-finish M = (M.final, M.run, M.finished)
