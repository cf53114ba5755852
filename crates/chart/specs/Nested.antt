-- Regions inside regions (02, Note 12): which construct is one of which region, what lies in a region, and what a node is for a region.
-- Assumes nothing.
use Rattle.std.specs.Prelude.{Bool, ◌&&◌, ◌||◌, not, cond, List, ℕ, zero, suc, eqb, ltb, length}
use Rattle.chart.specs.Format.{outside, Node, Construct, construct_at}
use Rattle.chart.specs.Region.{Role, plain, barrier, opens, closes}
use Rattle.chart.specs.Scope.{barrier_node, begin_node, end_node, parallel_byte, encloses, parent_of, leaving_at, arriving_at}

-- Construct c opens a region of its own.
unfoldable pub is_parallel : List Construct → ℕ → Bool
is_parallel constructs c = eqb (construct_at constructs c).kind parallel_byte

-- The region of what lies in p: the nearest parallel that is p or stands above it, and outside, for the outermost region, where there is
-- none. `fuel` bounds the walk upwards.
unfoldable pub region_at : (ℕ → ℕ) → (ℕ → Bool) → ℕ → ℕ → ℕ
region_at parent shut zero p = outside
region_at parent shut (suc fuel) p = cond (eqb p outside || shut p) p (region_at parent shut fuel (parent p))

-- Construct c is one of the region p: a construct of a deeper region, and a parallel, count for nothing.
unfoldable pub counts_in : List Construct → ℕ → ℕ → Bool
counts_in constructs p c =
    not (is_parallel constructs c) && eqb (region_at (parent_of constructs) (is_parallel constructs) (length constructs) (parent_of constructs c)) p

-- The place q, a construct or outside, lies in the region p, at any depth.
unfoldable pub lies_within : List Construct → ℕ → ℕ → Bool
lies_within constructs p q = eqb p outside || encloses (parent_of constructs) (length constructs) q p

-- Node x is one of the region p: it lies in it, or is its begin or its end.
unfoldable pub kept_in : List Node → List Construct → ℕ → ℕ → Bool
kept_in nodes constructs p x =
    ltb x (length nodes)
    && (lies_within constructs p (leaving_at nodes constructs x) || lies_within constructs p (arriving_at nodes constructs x))

-- What a node of this kind with this number is for the region p, of whose constructs `counts` tells. A barrier is one of the region that its
-- number names; the begin and the end of the region's own parallel are barriers too; of other begins and ends, those of the region's constructs
-- are such. All else is plain.
unfoldable pub role_in : ℕ → (ℕ → Bool) → ℕ → ℕ → Role
role_in p counts kind number =
    cond (eqb kind barrier_node) (cond (eqb number p) barrier plain)
    (cond (eqb kind begin_node) (cond (eqb number p) barrier (cond (counts number) (opens number) plain))
    (cond (eqb kind end_node) (cond (eqb number p) barrier (cond (counts number) (closes number) plain))
    plain))
