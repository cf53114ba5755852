-- Paths in any graph, and the barrier-free paths of a region.
-- Assumes nothing.
use Rattle.std.specs.Prelude.{◌≡◌, ◌≢◌, true, ℕ, suc}
use Rattle.chart.specs.Region.{barrier, Region}

-- A path (01: a way): one or more edges, and every node strictly between its ends has P. By position: an end may come up between too,
-- and then P is asked of it there.
pub data Path (E : ℕ → ℕ → Type 0) (P : ℕ → Type 0) : ℕ → ℕ → Type 0 where
  last : {x y : ℕ} → E x y → Path E P x y
  next : {x z y : ℕ} → E x z → P z → Path E P z y → Path E P x y

-- How many edges a path has.
unfoldable pub edges : {E : ℕ → ℕ → Type 0} {P : ℕ → Type 0} {x y : ℕ} → Path E P x y → ℕ
edges (last e) = 1
edges (next e p w) = suc (edges w)

abbrev pub Edge : Region → ℕ → ℕ → Type 0
Edge R x y = R.edge x y ≡ true

-- Every node, and every node but barriers.
abbrev pub Any : ℕ → Type 0
Any x = Unit {0}

abbrev pub Open : Region → ℕ → Type 0
Open R x = R.role x ≢ barrier

-- A barrier-free path (01: a barrier-free way): no node strictly between its ends is a barrier.
abbrev pub BarrierFree : Region → ℕ → ℕ → Type 0
BarrierFree R x y = Path (Edge R) (Open R) x y
