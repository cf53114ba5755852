-- What a trace says by the team rules alone (02, Note 11): which entries are legal, the state that they lead to, and the pairs met there. No computed
-- decision is mentioned here.
-- Assumes nothing.
use Rattle.std.specs.Prelude.{◌≡◌, ◌≢◌, true, List, [], ◌∷◌, ◌++◌, ℕ, suc, ◌+◌, ◌*◌, ◌≤◌, ◌<◌, length, get_or}
use Rattle.chart.specs.Region.{barrier, Region}
use Rattle.theory_team.specs.State.{State, initial, released}
use Rattle.theory_team.specs.Step.{ThreadStep}

-- Entry i: two bytes, a thread and the node that it steps to.
abbrev pub thread_at : List ℕ → ℕ → ℕ
thread_at trace i = get_or trace (2 * i) 0

abbrev pub target_at : List ℕ → ℕ → ℕ
target_at trace i = get_or trace (2 * i + 1) 0

-- All threads are at one barrier, not finish.
pub record Gathered (R : Region) (m : ℕ) (σ : State) : Type 0 where
  pub at-barrier : R.role (σ.node 0) ≡ barrier
  pub going_on : σ.node 0 ≢ R.finish
  pub all_there : (k : ℕ) → k < m → σ.node k ≡ σ.node 0

-- The entry of thread t, to v, is the next of a release (02: an opening) for which the threads before t have chosen these nodes.
pub record Chooses (R : Region) (m : ℕ) (σ : State) (nodes : List ℕ) (t v : ℕ) : Type 0 where
  pub gathered : Gathered R m σ
  pub in_order : t ≡ length nodes
  pub along : R.edge (σ.node 0) v ≡ true

-- The first k entries are legal: they lead to the state, with these nodes chosen by the entries of a release that is not yet whole. A release
-- takes effect only with its last entry, and all that is chosen is left then.
pub data Legal (R : Region) (m : ℕ) (trace : List ℕ) : ℕ → State → List ℕ → Type 0 where
  begins : Legal R m trace 0 (initial R) []
  steps : {k : ℕ} {σ τ : State} → Legal R m trace k σ [] → thread_at trace k < m → ThreadStep R m σ (thread_at trace k) (target_at trace k) τ
      → Legal R m trace (suc k) τ []
  chooses : {k : ℕ} {σ : State} {nodes : List ℕ} → Legal R m trace k σ nodes → Chooses R m σ nodes (thread_at trace k) (target_at trace k)
      → suc (length nodes) < m → Legal R m trace (suc k) σ (nodes ++ (target_at trace k ∷ []))
  releases : {k : ℕ} {σ : State} {nodes : List ℕ} → Legal R m trace k σ nodes → Chooses R m σ nodes (thread_at trace k) (target_at trace k)
      → suc (length nodes) ≡ m → Legal R m trace (suc k) (released m σ (λ t. get_or (nodes ++ (target_at trace k ∷ [])) t 0)) []

-- Two different threads of the team stand at a and b.
abbrev pub Together : ℕ → State → ℕ → ℕ → Type 0
Together m σ a b = (t : ℕ) × (t < m) × ((k : ℕ) × (k < m) × ((t ≢ k) × ((σ.node t ≡ a) × (σ.node k ≡ b))))

-- They do so before the first entry, or after one of the first k (02: met up to there).
pub record MetBy (R : Region) (m : ℕ) (trace : List ℕ) (k a b : ℕ) : Type 0 where
  pub entries : ℕ
  pub up_to : entries ≤ k
  pub state : State
  pub chosen : List ℕ
  pub legal : Legal R m trace entries state chosen
  pub there : Together m state a b
