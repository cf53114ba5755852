-- The barriers that are joined to one of them, as the masks of all nodes tell when no path passed a barrier. Row 10 of the refusals is
-- then a matter of these barriers and of the masks, with no further search.
-- Assumes nothing.
use Rattle.std.specs.Prelude.{◌≡◌, Bool, true, false, ◌&&◌, ◌||◌, not, List, ℕ, ◌-◌, ◌^◌, ◌≤◌, ◌<◌, eqb, length, get_or}
use Rattle.lists.specs.Mask.{Has, Sub, Mask}
use Rattle.lists.specs.Range.{any}
use Rattle.chart.specs.Region.{Region}
use Rattle.chart.specs.WellFormed.{WellFormed}
use Rattle.theory_paths.specs.Path.{Open}
use Rattle.theory_paths.specs.Found.{Reached, Found}
use Rattle.theory_paths.specs.Phases.{Direction, forward, backward, barriers, barrier_at}
use Rattle.mark_tables.specs.Tables.{Along, leads_any, Arranged, Stops, Barriers}
use Rattle.search.specs.Search.{Spread, Cleared}
use Rattle.search.specs.Promises.{Goes, Comes}
use Rattle.search.specs.declared.edges.Parts.{Parts}
use Rattle.search.specs.declared.edges.Extent.{Extent}

-- By the mask of barrier b a path past no barrier leads there from barrier c; against the masks: by that of c, from b to c.
abbrev pub Told : Bool → List ℕ → List ℕ → ℕ → ℕ → ℕ → Type 0
Told false masks nodes total b c = (b < total) × Has (get_or masks (get_or nodes b 0) 0) c
Told true masks nodes total b c = Has (get_or masks (get_or nodes c 0) 0) b

-- Barrier b is one of the first, or T joins it to one that is joined to them.
pub data Joined (T : ℕ → ℕ → Type 0) (first : ℕ) : ℕ → Type 0 where
  own : {b : ℕ} → Has first b → Joined T first b
  more : {b c : ℕ} → Joined T first c → T b c → Joined T first b

-- The mask of those that T joins to the source, where T speaks of the first `total` barriers alone.
abbrev pub JoinedTo : (ℕ → ℕ → Type 0) → ℕ → ℕ → ℕ → Type 0
JoinedTo T source total mask = ((b c : ℕ) → T b c → b < total) → Mask (Joined T (2 ^ source)) total mask

-- What a pass over the barriers makes of those joined before, when it has come to the pairs with D: what T joins to one of them is joined.
pub record Passed (T D : ℕ → ℕ → Type 0) (before all : ℕ) : Type 0 where
  pub most : before ≤ all
  pub keeps : Sub before all
  pub sound : (b : ℕ) → Has all b → Joined T before b
  pub done : (b c : ℕ) → D b c → Has before c → T b c → Has all b

-- One of the nodes, other than the source, is not led to from there.
abbrev pub lost : Direction → Region → ℕ → Bool
lost d R source = any R.nodes (λ x. not (eqb x source) && not (leads_any d R source x))

-- One of the barriers, other than the source, is not led to from there; both by their numbers.
abbrev pub lost_barrier : Direction → Region → ℕ → Bool
lost_barrier d R source = any (length (barriers R)) (λ b. not (eqb b source) && not (leads_any d R (barrier_at R source) (barrier_at R b)))

-- One of the first n nodes, on which no stop stands, has 0.
abbrev pub missing : List ℕ → List ℕ → ℕ → Bool
missing stops values n = any n (λ x. eqb (get_or stops x 0) 0 && eqb (get_or values x 0) 0)

-- Numbers that tell of the nodes with P whether a path leads there from a source, 0 for none: masks do, and levels.
pub record Reaches (E : ℕ → ℕ → Type 0) (P : ℕ → Type 0) (sources : List ℕ) (total : ℕ) (values : List ℕ) : Type 0 where
  pub some : (x : ℕ) → P x → (get_or values x 0 ≡ 0 → ⊥) → (b : ℕ) × (b < total) × Reached E P sources b x
  pub none : (b x : ℕ) → b < total → P x → Reached E P sources b x → get_or values x 0 ≡ 0 → ⊥

-- So it is forward from the first barrier, or backward from the last.
abbrev pub lost_in : Region → Bool
lost_in R = lost forward R (barrier_at R 0) || lost backward R (barrier_at R (length (barriers R) - 1))

-- Of each region of which the masks are what a search from its barriers finds, in a direction, P holds.
abbrev pub FoundAlong : Direction → List ℕ → ℕ → List ℕ → (Region → Type 0) → Type 0
FoundAlong d nodes total masks P = (R : Region) → WellFormed R → Barriers R nodes total → Found (Along d R) (Open R) nodes total masks → P R

-- Of each region that the tables are of, P holds.
abbrev pub TablesOf : List (List ℕ) → List ℕ → List ℕ → List ℕ → Extent → (Region → Type 0) → Type 0
TablesOf edges places stops nodes extent P =
    (R : Region) → WellFormed R → Arranged R edges places stops extent.parts → Stops R stops → Barriers R nodes extent.barriers → P R

-- Of each region of which a search from its barriers has found the starts and ends, P holds; the starts are not yet brought to the barriers.
abbrev pub SpreadOf : List (List ℕ) → List ℕ → Extent → List ℕ → List ℕ → (Region → Type 0) → Type 0
SpreadOf edges nodes extent starts ends P =
    (places stops : List ℕ) (R : Region) → WellFormed R → (A : Arranged R edges places stops extent.parts) → Stops R stops → Barriers R nodes extent.barriers
    → Spread (Goes edges A.count) stops nodes extent.barriers starts → Cleared (Comes edges A.count) stops nodes extent.barriers ends → P R

-- The table is that of the region, parted by stops on its barriers.
abbrev pub ArrangedBy : Region → List (List ℕ) → List ℕ → Parts → Type 0
ArrangedBy R edges places parts = (stops : List ℕ) × (Arranged R edges places stops parts × Stops R stops)
