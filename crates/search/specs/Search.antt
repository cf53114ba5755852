-- What a search finds, and what it works on: a table of edges that are parted by stops, and places where the edges of each node begin.
-- Assumes nothing.
use Rattle.std.specs.Prelude.{◌≡◌, List, ℕ, ◌+◌, ◌<◌, length, get_or}
use Rattle.lists.specs.Mask.{Mask}
use Rattle.theory_paths.specs.Graph.{Places}
use Rattle.theory_paths.specs.Found.{Clear, Reached, Found}
use Rattle.search.specs.Parts.{row, Split}
use Rattle.search.specs.Levels.{Shows}
use Rattle.search.specs.declared.edges.Parts.{Parts}

-- The table is that of some edges and stops.
pub record Ready (edges : List (List ℕ)) (places : List ℕ) (parts : Parts) : Type 0 where
  pub count : ℕ
  pub stops : List ℕ
  pub split : Split edges count stops parts
  pub begins : Places (row edges 0) count places

-- The sources are the nodes on which stops stand.
pub record Standing (stops sources : List ℕ) (total : ℕ) : Type 0 where
  pub on : (b : ℕ) → b < total → Clear stops (get_or sources b 0) → ⊥
  pub number : (y : ℕ) → (Clear stops y → ⊥) → (b : ℕ) × (b < total) × (get_or sources b 0 ≡ y)

-- Masks of the sources that have an edge to each node.
pub record Sown (E : ℕ → ℕ → Type 0) (sources : List ℕ) (total : ℕ) (masks : List ℕ) : Type 0 where
  pub long : length masks ≡ 192
  pub mask : (y : ℕ) → Mask (λ b. E (get_or sources b 0) y) total (get_or masks y 0)

-- Masks of the sources from which a path leads to each node that may be passed, and an edge to each stop.
pub record Spread (E : ℕ → ℕ → Type 0) (stops sources : List ℕ) (total : ℕ) (masks : List ℕ) : Type 0 where
  pub long : length masks ≡ 192
  pub clear : (y : ℕ) → y < 192 → Clear stops y → Mask (λ b. Reached E (Clear stops) sources b y) total (get_or masks y 0)
  pub stop : (y : ℕ) → y < 192 → (Clear stops y → ⊥) → Mask (λ b. E (get_or sources b 0) y) total (get_or masks y 0)

-- Masks of the sources from which a path leads to each node that may be passed, past no stop; stops have none.
pub record Cleared (E : ℕ → ℕ → Type 0) (stops sources : List ℕ) (total : ℕ) (masks : List ℕ) : Type 0 where
  pub clear : (y : ℕ) → Clear stops y → Mask (λ b. Reached E (Clear stops) sources b y) total (get_or masks y 0)
  pub stop : (y : ℕ) → (Clear stops y → ⊥) → get_or masks y 0 ≡ 0

-- Such masks, and in `all` the same for every node, with what comes to the stops.
pub record Marked (E : ℕ → ℕ → Type 0) (stops sources : List ℕ) (total : ℕ) (masks all : List ℕ) : Type 0 where
  pub every : Found E (Clear stops) sources total all
  pub passable : Cleared E stops sources total masks

-- All paths begin at the first source: there are two, and no edge stands at the places of the second.
abbrev pub Lone : List ℕ → List ℕ → ℕ → Type 0
Lone places sources total = (total ≡ 2) × (get_or places (get_or sources 1 0) 0 ≡ get_or places (get_or sources 1 0 + 1) 0)

-- The masks old become new: the two sources keep theirs, and the levels tell the others.
pub record Settled (sources levels old new : List ℕ) : Type 0 where
  pub long : length new ≡ 192
  pub at : (b : ℕ) → b < 2 → get_or new (get_or sources b 0) 0 ≡ get_or old (get_or sources b 0) 0
  pub rest : (y : ℕ) → y < 192 → ((b : ℕ) → b < 2 → get_or sources b 0 ≡ y → ⊥) → Shows (get_or levels y 0) (get_or new y 0)
