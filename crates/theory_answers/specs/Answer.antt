-- The pair rules (01: "Phases and pair rules"): the answer for two nodes, which may be equal, by computation. It is asked for nodes that are
-- no barriers. What it means is in proofs/AnswerLaws.antt.
-- Assumes nothing.
use Rattle.std.specs.Prelude.{Bool, false, ◌&&◌, ◌||◌, not, cond, ℕ, eqb, leb}
use Rattle.lists.specs.Truth.{is}
use Rattle.lists.specs.Range.{any}
use Rattle.chart.specs.Region.{Role, plain, barrier, opens, closes, Kind, Kind-discrete, single, master, ordered, section, Region}
use Rattle.theory_paths.specs.Decide.{returns}
use Rattle.theory_paths.specs.Phases.{Direction, forward, backward, is_boundary}
use Rattle.theory_answers.specs.declared.Size.{Size}
use Rattle.theory_answers.specs.declared.Size.TheVariants.{Any, Of}

-- x is inside c (01: inside, at any depth), a construct of this kind.
unfoldable pub is_in : Region → Kind → ℕ → ℕ → Bool
is_in R kind x c = is (Kind-discrete (R.kind c) kind) && R.inside x c

-- x is inside an ordered of the do d.
unfoldable pub in_ordered_of : Region → ℕ → ℕ → Bool
in_ordered_of R x d = any R.constructs (λ o. is_in R ordered x o && eqb (R.parent o) d)

-- A node of this role is the begin or the end of c.
abbrev pub frames : Role → ℕ → Bool
frames plain c = false
frames barrier c = false
frames (opens d) c = eqb d c
frames (closes d) c = eqb d c

-- x is inside the section s, whose begin and end count as inside (02, Note 1).
unfoldable pub in_section : Region → ℕ → ℕ → Bool
in_section R x s = is (Kind-discrete (R.kind s) section) && (R.inside x s || frames (R.role x) s)

-- No barrier is a start of a and of b; backward: an end.
unfoldable pub no_common : Direction → Region → ℕ → ℕ → Bool
no_common d R a b = not (any R.nodes (λ s. is_boundary d R a s && is_boundary d R b s))

-- Rule 1: no common start, or no common end.
unfoldable pub no_common_phase : Region → ℕ → ℕ → Bool
no_common_phase R a b = no_common forward R a b || no_common backward R a b

-- Rule 2: each is inside some master, the two for the same thread (02: masked constructs of the same filter). In edition 1 all are for
-- thread 0, so that any two will do (01).
unfoldable pub both_in_masters : Region → ℕ → ℕ → Bool
both_in_masters R a b =
    any R.constructs (λ c. any R.constructs (λ d. (is_in R master a c && is_in R master b d) && eqb (R.thread c) (R.thread d)))

-- Rule 3: both inside one single, which does not return.
unfoldable pub both_in_single : Region → ℕ → ℕ → Bool
both_in_single R a b = any R.constructs (λ c. (is_in R single a c && is_in R single b c) && not (returns R c))

-- Rule 4: both inside ordereds of one do, which does not return.
unfoldable pub both_in_ordereds : Region → ℕ → ℕ → Bool
both_in_ordereds R a b = any R.constructs (λ d. (in_ordered_of R a d && in_ordered_of R b d) && not (returns R d))

-- Rule 5 (02, Note 1): both inside one section, whose sections construct does not return.
unfoldable pub both_in_section : Region → ℕ → ℕ → Bool
both_in_section R a b = any R.constructs (λ s. (in_section R a s && in_section R b s) && not (returns R (R.parent s)))

-- The number of the first rule that applies: a reason why the nodes are never concurrent (01: never). 0 otherwise (01: they may meet).
unfoldable pub answer : Region → ℕ → ℕ → ℕ
answer R a b =
    cond (no_common_phase R a b) 1
    (cond (both_in_masters R a b) 2
    (cond (both_in_single R a b) 3
    (cond (both_in_ordereds R a b) 4
    (cond (both_in_section R a b) 5
    0))))

-- x is inside a master whose thread a team of m lacks (02, Note 10: a masked whose filter is at or over the size).
unfoldable pub lacks_thread : Region → ℕ → ℕ → Bool
lacks_thread R m x = any R.constructs (λ c. is_in R master x c && leb m (R.thread c))

-- The answer for teams of m threads (02, Note 10). Ahead of all other rules: 6, the team has one thread; 7, one of the nodes is inside a master
-- whose thread it lacks.
unfoldable pub answer_in : Region → ℕ → ℕ → ℕ → ℕ
answer_in R m a b = cond (leb m 1) 6 (cond (lacks_thread R m a || lacks_thread R m b) 7 (answer R a b))

-- The answer for the teams of a size, or for all.
abbrev pub answer_for : Region → Size → ℕ → ℕ → ℕ
answer_for R Any = answer R
answer_for R (Of m) = answer_in R m
