-- Phases (01: "Phases and pair rules"): the barriers that are starts and ends of a node, the constructs that return, the phase count.
-- That what is computed here is what is said in paths is in specs/PhasesLaws.antt.
-- Assumes nothing.
use Rattle.std.specs.Prelude.{◌≡◌, Bool, ◌&&◌, not, List, ℕ, length, get_or}
use Rattle.lists.specs.Range.{any, count_pairs}
use Rattle.lists.specs.Mask.{mask_of}
use Rattle.lists.specs.Least.{least}
use Rattle.lists.specs.Select.{select}
use Rattle.chart.specs.Region.{barrier, Region}
use Rattle.theory_paths.specs.Path.{Open, BarrierFree}
use Rattle.theory_paths.specs.Reach.{distance}
use Rattle.theory_paths.specs.Decide.{no_barrier, reaches_free, returns}

-- Along the edges, or against them. Starts are read forward, ends backward.
pub data Direction : Type 0 where
  forward backward : Direction

-- A barrier-free path leads from x to y; backward: from y to x. As a relation, and computed.
abbrev pub Free : Direction → Region → ℕ → ℕ → Type 0
Free forward R x y = BarrierFree R x y
Free backward R x y = BarrierFree R y x

abbrev pub leads : Direction → Region → ℕ → ℕ → Bool
leads forward R x y = reaches_free R x y
leads backward R x y = reaches_free R y x

-- The node s is a start of node x (01: start); backward: an end (01: end). Barriers have no starts and no ends.
pub record Boundary (d : Direction) (R : Region) (x s : ℕ) : Type 0 where
  pub no-barrier : Open R x
  pub is-barrier : R.role s ≡ barrier
  pub path : Free d R s x

-- The same, computed.
unfoldable pub is_boundary : Direction → Region → ℕ → ℕ → Bool
is_boundary d R x s = no_barrier (R.role x) && (not (no_barrier (R.role s)) && leads d R s x)

-- The barriers, numbered from 0 by rising node number.
unfoldable pub barriers : Region → List ℕ
barriers R = select R.nodes (λ x. not (no_barrier (R.role x)))

-- The node of barrier number b.
abbrev pub barrier_at : Region → ℕ → ℕ
barrier_at R b = get_or (barriers R) b 0

-- Barrier number b is a start of node x; backward: an end.
unfoldable pub marked : Direction → Region → ℕ → ℕ → Bool
marked d R x b = is_boundary d R x (barrier_at R b)

-- As a mask, with bit b for barrier b.
unfoldable pub marks : Direction → Region → ℕ → ℕ
marks d R x = mask_of (marked d R x) (length (barriers R))

abbrev pub starts : Region → ℕ → ℕ
starts R x = marks forward R x

abbrev pub ends : Region → ℕ → ℕ
ends R x = marks backward R x

-- The fewest edges on a barrier-free path from x to y, 0 where there is none; backward: from y to x.
abbrev pub edges_free : Direction → Region → ℕ → ℕ → ℕ
edges_free forward R x y = distance R.nodes R.edge (λ z. no_barrier (R.role z)) x y
edges_free backward R x y = distance R.nodes R.edge (λ z. no_barrier (R.role z)) y x

-- The fewest over all barriers, 0 where no such path leads from one to x; backward: from x to one.
unfoldable pub nearest : Direction → Region → ℕ → ℕ
nearest d R x = least (λ b. edges_free d R (barrier_at R b) x) (length (barriers R))

-- Some node has the start b and the end c (01: phase).
unfoldable pub phase : Region → ℕ → ℕ → Bool
phase R b c = any R.nodes (λ x. marked forward R x b && marked backward R x c)

-- How many such pairs there are (01: phase count).
unfoldable pub phase_count : Region → ℕ
phase_count R = count_pairs (length (barriers R)) (length (barriers R)) (phase R)

-- The constructs that return, as a mask with bit c for construct c.
unfoldable pub returning : Region → ℕ
returning R = mask_of (returns R) R.constructs
