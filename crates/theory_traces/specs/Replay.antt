-- The replay of a recorded run (02, Note 11): entry after entry, each decided by the team rules. An entry is two bytes, a thread and the node that
-- it steps to. A release (02: an opening) is one entry for each thread, in thread order, and takes effect only with its last.
-- Assumes nothing.
use Rattle.std.specs.Prelude.{Bool, false, ◌&&◌, ◌||◌, not, cond, List, [], ◌∷◌, ◌++◌, ℕ, zero, suc, ◌+◌, ◌*◌, ◌/◌, eqb, length, get_or}
use Rattle.std.proofs.Math.Option.{Option, none, some}
use Rattle.lists.specs.Range.{every, any}
use Rattle.chart.specs.Region.{Region}
use Rattle.theory_paths.specs.Decide.{no_barrier}
use Rattle.theory_team.specs.State.{State, initial, released}
use Rattle.theory_traces.specs.Decide.{decide, apply, allowed}
use Rattle.theory_traces.specs.declared.Effect.{Effect}
use Rattle.theory_traces.specs.declared.Replayed.{Replayed}
use Rattle.theory_traces.specs.declared.Replayed.TheVariants.{Finished, Unfinished, Forbidden}

-- Two different threads of the team stand at a and b.
unfoldable pub together : ℕ → State → ℕ → ℕ → Bool
together m σ a b = any m (λ t. any m (λ k. not (eqb t k) && (eqb (σ.node t) a && eqb (σ.node k) b)))

-- The state; the nodes chosen by the entries of a release that is not yet whole; and the pairs met so far (02: met).
pub record Play : Type 0 where
  pub state : State
  pub chosen : List ℕ
  pub met : ℕ → ℕ → Bool

-- A state is reached: what is met there is met from now on.
unfoldable pub reached : ℕ → (ℕ → ℕ → Bool) → State → Play
reached m old σ = record { state = σ; chosen = []; met = λ a b. old a b || together m σ a b }

-- Before the first entry: every thread at start, every count 0, no section taken.
unfoldable pub begun : Region → ℕ → Play
begun R m = reached m (λ a b. false) (initial R)

-- All threads are at one barrier, not finish: the next entry belongs to a release.
unfoldable pub gathered : Region → ℕ → State → Bool
gathered R m σ = not (no_barrier (R.role (σ.node 0))) && (not (eqb (σ.node 0) R.finish) && every m (λ k. eqb (σ.node k) (σ.node 0)))

-- These nodes are chosen, by the first threads: with the last thread's the release takes effect.
unfoldable pub chosen_now : ℕ → Play → List ℕ → Play
chosen_now m P nodes =
    cond (eqb (length nodes) m) (reached m P.met (released m P.state (λ t. get_or nodes t 0)))
    (record { state = P.state; chosen = nodes; met = P.met })

-- An entry of a release: the next thread's, along an edge. None where it is forbidden.
unfoldable pub choose : Region → ℕ → Play → ℕ → ℕ → Option Play
choose R m P t v = cond (eqb t (length P.chosen) && R.edge (P.state.node 0) v) (some (chosen_now m P (P.chosen ++ (v ∷ [])))) none

-- An entry of one thread.
unfoldable pub stepped : ℕ → Play → ℕ → ℕ → Effect → Option Play
stepped m P t v effect = cond (allowed effect) (some (reached m P.met (apply P.state t v effect))) none

unfoldable pub feed : Region → ℕ → Play → ℕ → ℕ → Option Play
feed R m P t v = cond (gathered R m P.state) (choose R m P t v) (stepped m P t v (decide R m P.state t v))

-- The replay goes on, or has stopped at the entry of this index, as at the last legal entry.
pub data Progress : Type 0 where
  going : Play → Progress
  stopped : Play → ℕ → Progress

unfoldable pub onward : ℕ → Play → Option Play → Progress
onward i P none = stopped P i
onward i P (some Q) = going Q

unfoldable pub next : Region → ℕ → ℕ → ℕ → ℕ → Progress → Progress
next R m i t v (going P) = onward i P (feed R m P t v)
next R m i t v (stopped P k) = stopped P k

-- After the first k entries of a trace.
unfoldable pub progress : Region → ℕ → List ℕ → ℕ → Progress
progress R m trace zero = going (begun R m)
progress R m trace (suc i) = next R m i (get_or trace (2 * i) 0) (get_or trace (2 * i + 1) 0) (progress R m trace i)

-- After all of them.
abbrev pub replayed : Region → ℕ → List ℕ → Progress
replayed R m trace = progress R m trace (length trace / 2)

unfoldable pub at_finish : Region → ℕ → State → Bool
at_finish R m σ = every m (λ k. eqb (σ.node k) R.finish)

-- What the replay says, and what it has come to.
unfoldable pub outcome_of : Region → ℕ → Progress → Replayed
outcome_of R m (going P) = cond (at_finish R m P.state) Finished Unfinished
outcome_of R m (stopped P i) = Forbidden i

unfoldable pub play_of : Progress → Play
play_of (going P) = P
play_of (stopped P i) = P
