-- The ends of the constructs of which a rule asks whether they return, as sources of the marking's search behind the barriers, and what is read off
-- its masks.
-- Assumes nothing.
use Rattle.std.specs.Prelude.{◌≡◌, ◌⊎◌, List, ℕ, ◌+◌, ◌%◌, ◌^◌, ◌≤◌, ◌<◌, length, get_or}
use Rattle.chart.specs.Format.{decode}
use Rattle.chart.specs.Scope.{begin_node, end_node}
use Rattle.chart.specs.Checked.{reading}
use Rattle.chart.specs.declared.format.Chart.{Chart}
use Rattle.check_nodes.specs.Framed.{Framed}
use Rattle.mark_tables.specs.Tables.{Accepted, Arranged, Stops, Returned}
use Rattle.search.specs.Search.{Spread}
use Rattle.search.specs.Promises.{Goes}
use Rattle.search.specs.declared.edges.Extent.{Extent}

-- It is asked of n constructs: of all, or of none.
pub record Asked (s : List ℕ) (chart : Chart) (n : ℕ) : Type 0 where
  pub none : n ≡ 0 → Returned (reading s chart) 0
  pub all : (n ≡ 0 → ⊥) → n ≡ chart.constructs

-- Of the `total` nodes of a list those behind the first k are the ends of the first n constructs, or there are none.
abbrev pub Behind : List ℕ → ℕ → ℕ → ℕ → List ℕ → Type 0
Behind ends n k total nodes = (total ≡ k) ⊎ ((total ≡ k + n) × ((c : ℕ) → c < n → get_or nodes (k + c) 0 ≡ get_or ends c 0))

-- The list old of k nodes becomes new, of `total`, when the ends are put behind them.
pub record Added (ends : List ℕ) (n k : ℕ) (old : List ℕ) (total : ℕ) (new : List ℕ) : Type 0 where
  pub long : length new ≡ 64
  pub least : k ≤ total
  pub most : total ≤ 64
  pub keep : (b : ℕ) → b < k → get_or new b 0 ≡ get_or old b 0
  pub node : ((c : ℕ) → get_or ends c 0 < 192) → ((b : ℕ) → get_or old b 0 < 192) → (b : ℕ) → get_or new b 0 < 192
  pub behind : Behind ends n k total new

-- A mask of the first k sources alone.
abbrev pub First : ℕ → ℕ → ℕ → Type 0
First k mask first = first ≡ mask % 2 ^ k

-- The starts of all sources become those of the barriers.
abbrev pub Barred : List (List ℕ) → Extent → List ℕ → List ℕ → Type 0
Barred edges extent old new =
    (e : ℕ) (stops nodes : List ℕ) → Spread (Goes edges e) stops nodes extent.total old → Spread (Goes edges e) stops nodes extent.barriers new

-- The mask tells of each chart that the table may be of which of its constructs return.
abbrev pub TellsReturned : List (List ℕ) → List ℕ → Extent → List ℕ → List ℕ → ℕ → List ℕ → ℕ → Type 0
TellsReturned edges places extent begins ends n starts mask =
    (s : List ℕ) (chart : Chart) (stops nodes : List ℕ) → Accepted s chart → Asked s chart n → Framed (decode s) begin_node begins → Framed (decode s) end_node ends
    → (A : Arranged (reading s chart) edges places stops extent.parts) → Stops (reading s chart) stops → Behind ends n extent.barriers extent.total nodes
    → Spread (Goes edges A.count) stops nodes extent.total starts → Returned (reading s chart) mask
