-- The team rules as a decision: what a step of a thread to a node does to the state, or that the rules forbid it. The thread and the node
-- determine it. That this is what the rules say is in proofs/DecideLaws.antt.
-- Assumes nothing.
use Rattle.std.specs.Prelude.{Bool, true, false, ◌&&◌, ◌||◌, cond, ℕ, suc, ltb, eqb}
use Rattle.chart.specs.Region.{Role, plain, barrier, opens, closes, loop, sections, section, Region}
use Rattle.theory_team.specs.State.{State, moved, left, took}
use Rattle.theory_traces.specs.Tests.{is_kind, is_untaken, may_enter, may_pass, may_leave}
use Rattle.theory_traces.specs.declared.Effect.{Effect}
use Rattle.theory_traces.specs.declared.Effect.TheVariants.{None, Moves, Leaves, Takes, TakesNext}

-- A step from the begin or the end of c to a node of this role: if c is a sections construct and the node begins a section of it that is
-- untaken in the k-th instance, the step takes that section.
unfoldable pub taking : Region → ℕ → State → ℕ → ℕ → (ℕ → Effect) → Role → Effect
taking R m σ c k effect plain = None
taking R m σ c k effect barrier = None
taking R m σ c k effect (closes x) = None
taking R m σ c k effect (opens x) =
    cond (is_kind (R.kind c) sections && ((is_kind (R.kind x) section && eqb (R.parent x) c) && is_untaken m σ c k x)) (effect x) None

-- Thread t steps to v from the begin of c: along an edge, or straight to the end, or to a section.
unfoldable pub from_begin : Region → ℕ → State → ℕ → ℕ → ℕ → Effect
from_begin R m σ t v c =
    cond ((R.edge (σ.node t) v && may_enter R m σ t c (R.kind c)) || (eqb v (R.end c) && may_pass R m σ t c (R.kind c))) (Leaves c)
    (taking R m σ c (suc (σ.encounters t c)) (Takes c) (R.role v))

-- From the end of c: along an edge, or back into the do, or to another section.
unfoldable pub from_end : Region → ℕ → State → ℕ → ℕ → ℕ → Effect
from_end R m σ t v c =
    cond ((R.edge (σ.node t) v && may_leave R m σ t c) || (is_kind (R.kind c) loop && R.edge (R.begin c) v)) Moves
    (taking R m σ c (σ.encounters t c) (TakesNext c) (R.role v))

-- From a node of this role. No thread leaves a barrier by itself.
unfoldable pub from_node : Region → ℕ → State → ℕ → ℕ → Role → Effect
from_node R m σ t v plain = cond (R.edge (σ.node t) v) Moves None
from_node R m σ t v barrier = None
from_node R m σ t v (opens c) = from_begin R m σ t v c
from_node R m σ t v (closes c) = from_end R m σ t v c

-- Thread t of a team of m steps to v.
unfoldable pub decide : Region → ℕ → State → ℕ → ℕ → Effect
decide R m σ t v = cond (ltb t m) (from_node R m σ t v (R.role (σ.node t))) None

-- The state after it.
unfoldable pub apply : State → ℕ → ℕ → Effect → State
apply σ t v None = σ
apply σ t v Moves = moved σ t v
apply σ t v (Leaves c) = left σ t c v
apply σ t v (Takes c x) = took (left σ t c v) t c x
apply σ t v (TakesNext c x) = took (moved σ t v) t c x

-- The rules allow it.
unfoldable pub allowed : Effect → Bool
allowed None = false
allowed Moves = true
allowed (Leaves c) = true
allowed (Takes c x) = true
allowed (TakesNext c x) = true
