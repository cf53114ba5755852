-- What a search finds: for each node the sources from which a path leads there, as a mask, and the fewest edges on such a path.
-- Assumes nothing.
use Rattle.std.specs.Prelude.{◌≡◌, List, ℕ, ◌≤◌, ◌<◌, get_or}
use Rattle.lists.specs.Mask.{Mask}
use Rattle.theory_paths.specs.Path.{Path, edges}

-- no stop stands on z
abbrev pub Clear : List ℕ → ℕ → Type 0
Clear stops z = get_or stops z 0 ≡ 0

-- A path leads from source b to y, past nodes that have P.
abbrev pub Reached : (ℕ → ℕ → Type 0) → (ℕ → Type 0) → List ℕ → ℕ → ℕ → Type 0
Reached E P sources b y = Path E P (get_or sources b 0) y

-- A path of j edges leads to y from one of the sources.
pub record ReachedIn (E : ℕ → ℕ → Type 0) (P : ℕ → Type 0) (sources : List ℕ) (total j y : ℕ) : Type 0 where
  pub source : ℕ
  pub below : source < total
  pub path : Reached E P sources source y
  pub long : edges path ≡ j

pub record Found (E : ℕ → ℕ → Type 0) (P : ℕ → Type 0) (sources : List ℕ) (total : ℕ) (masks : List ℕ) : Type 0 where
  -- a node's mask has the sources from which a path leads there
  pub mask : (y : ℕ) → Mask (λ b. Reached E P sources b y) total (get_or masks y 0)

-- The levels of the nodes that have Q.
pub record Leveled (E : ℕ → ℕ → Type 0) (P Q : ℕ → Type 0) (sources : List ℕ) (total : ℕ) (levels : List ℕ) : Type 0 where
  -- a node's level is the number of edges of such a path, 0 where there is none, and no such path has fewer
  pub path : (y : ℕ) → Q y → 0 < get_or levels y 0 → ReachedIn E P sources total (get_or levels y 0) y
  pub least : (b y : ℕ) → b < total → Q y → (w : Reached E P sources b y) → (0 < get_or levels y 0) × (get_or levels y 0 ≤ edges w)
