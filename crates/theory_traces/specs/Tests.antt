-- The team rules as tests: each computes what the rule of like name in crate theory_team asks. That it does is in proofs/TestsLaws.antt.
-- Assumes nothing.
use Rattle.std.specs.Prelude.{Bool, true, false, ◌&&◌, ◌||◌, not, ℕ, suc, leb, eqb}
use Rattle.lists.specs.Truth.{is}
use Rattle.lists.specs.Range.{every}
use Rattle.chart.specs.Region.{Role, plain, barrier, opens, closes, Kind, Kind-discrete, single, master, critical, loop, ordered, sections, section, parallel, Region}
use Rattle.theory_team.specs.State.{State}
use Rattle.theory_answers.specs.Answer.{in_ordered_of}

abbrev pub is_kind : Kind → Kind → Bool
is_kind a b = is (Kind-discrete a b)

-- No thread has left the begin of c as often as t is about to.
unfoldable pub is_first : ℕ → State → ℕ → ℕ → Bool
is_first m σ t c = every m (λ k. leb (σ.encounters k c) (σ.encounters t c))

-- No thread but t is inside an ordered of the do d in the same instance of d.
unfoldable pub none_ordered : Region → ℕ → State → ℕ → ℕ → Bool
none_ordered R m σ t d = every m (λ k. eqb k t || (not (in_ordered_of R (σ.node k) d) || not (eqb (σ.encounters k d) (σ.encounters t d))))

-- No thread is past the k-th instance of c, and none has taken the section x there.
unfoldable pub is_untaken : ℕ → State → ℕ → ℕ → ℕ → Bool
is_untaken m σ c k x = every m (λ t. leb (σ.encounters t c) k && (not (eqb (σ.encounters t c) k) || not (σ.taken t c x)))

-- A node of this role opens x.
unfoldable pub is_opening : ℕ → Role → Bool
is_opening x plain = false
is_opening x barrier = false
is_opening x (opens y) = eqb y x
is_opening x (closes y) = false

-- x is a section of the sections construct c.
unfoldable pub is_section_of : Region → ℕ → ℕ → Bool
is_section_of R c x = is_opening x (R.role (R.begin x)) && (is_kind (R.kind x) section && eqb (R.parent x) c)

-- All sections of c are taken in its k-th instance.
unfoldable pub all_taken : Region → ℕ → State → ℕ → ℕ → Bool
all_taken R m σ c k = every R.constructs (λ x. not (is_section_of R c x) || not (is_untaken m σ c k x))

-- Thread t, at the begin of c, may take an edge.
unfoldable pub may_enter : Region → ℕ → State → ℕ → ℕ → Kind → Bool
may_enter R m σ t c single = is_first m σ t c
may_enter R m σ t c master = eqb t (R.thread c)
may_enter R m σ t c critical = true
may_enter R m σ t c loop = true
may_enter R m σ t c ordered = none_ordered R m σ t (R.parent c)
may_enter R m σ t c sections = false
may_enter R m σ t c section = true
may_enter R m σ t c parallel = false

-- It may go straight to the end of c.
unfoldable pub may_pass : Region → ℕ → State → ℕ → ℕ → Kind → Bool
may_pass R m σ t c single = not (is_first m σ t c)
may_pass R m σ t c master = not (eqb t (R.thread c))
may_pass R m σ t c critical = false
may_pass R m σ t c loop = true
may_pass R m σ t c ordered = false
may_pass R m σ t c sections = all_taken R m σ c (suc (σ.encounters t c))
may_pass R m σ t c section = false
may_pass R m σ t c parallel = false

-- Thread t, at the end of c, may take an edge.
unfoldable pub may_leave : Region → ℕ → State → ℕ → ℕ → Bool
may_leave R m σ t c = not (is_kind (R.kind c) sections) || all_taken R m σ c (σ.encounters t c)
