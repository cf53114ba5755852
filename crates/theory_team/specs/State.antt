-- The state of a team: where each thread stands, how often it has left each construct's begin, and which sections it has taken.
-- Threads are numbered from 0; a team of m has those below m.
-- Assumes nothing.
use Rattle.std.specs.Prelude.{Bool, true, false, cond, ℕ, suc}
use Rattle.std.proofs.Math.Decide.{ℕ_discrete, dec_lt}
use Rattle.lists.specs.Truth.{is}
use Rattle.chart.specs.Region.{Region}

pub record State : Type 0 where
  -- the node that a thread stands at
  pub node : ℕ → ℕ
  -- how often a thread has left the begin of a construct since the last release (01: in this stretch): by thread, then by construct. It is
  -- also the number of the construct's instance (01: meeting) that the thread was in last.
  pub encounters : ℕ → ℕ → ℕ
  -- which sections a thread has taken in its latest instance of a sections construct (02: in its latest meeting): by thread, then by sections
  -- construct, then by section
  pub taken : ℕ → ℕ → ℕ → Bool

-- The first state: every thread at start, every count 0, nothing taken.
unfoldable pub initial : Region → State
initial R = record { node = λ t. R.start; encounters = λ t c. 0; taken = λ t c x. false }

-- f, with v at i
unfoldable pub update : {A : Type 0} → (ℕ → A) → ℕ → A → ℕ → A
update f i v k = cond (is (ℕ_discrete k i)) v (f k)

-- thread t has gone to v
unfoldable pub moved : State → ℕ → ℕ → State
moved σ t v = record { node = update σ.node t v; encounters = σ.encounters; taken = σ.taken }

-- thread t has left the begin of c and gone to v: in its new instance of c it has taken nothing
unfoldable pub left : State → ℕ → ℕ → ℕ → State
left σ t c v = record {
  node = update σ.node t v;
  encounters = update σ.encounters t (update (σ.encounters t) c (suc (σ.encounters t c)));
  taken = update σ.taken t (update (σ.taken t) c (λ x. false));
}

-- thread t has taken the section x of c
unfoldable pub took : State → ℕ → ℕ → ℕ → State
took σ t c x = record {
  node = σ.node;
  encounters = σ.encounters;
  taken = update σ.taken t (update (σ.taken t) c (update (σ.taken t c) x true));
}

-- Each thread t of the team of m has gone to its own node, `to t`, every count is 0 again and nothing is taken (02: none after an opening).
-- Threads from m on stay at start for good, so that what m threads do determines the state.
unfoldable pub released : ℕ → State → (ℕ → ℕ) → State
released m σ to = record { node = λ t. cond (is (dec_lt t m)) (to t) (σ.node t); encounters = λ t c. 0; taken = λ t c x. false }
