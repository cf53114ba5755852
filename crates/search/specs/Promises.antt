-- What the functions of a search promise. A function is handed a table of edges and no list of the edges and stops that it is of; it promises
-- the same for all of which it may be the table.
-- Assumes nothing.
use Rattle.std.specs.Prelude.{List, ℕ}
use Rattle.theory_paths.specs.Graph.{Listed, Places}
use Rattle.theory_paths.specs.Found.{Clear, Leveled}
use Rattle.search.specs.Parts.{row, Split}
use Rattle.search.specs.Levels.{Each, Begins}
use Rattle.search.specs.Search.{Standing, Sown, Spread, Cleared, Marked}
use Rattle.search.specs.declared.edges.Parts.{Parts}
use Rattle.search.specs.declared.edges.Extent.{Extent}

-- The first e edges of a table, and the same turned round.
abbrev pub Goes : List (List ℕ) → ℕ → ℕ → ℕ → Type 0
Goes edges e = Listed (row edges 0) (row edges 1) e

abbrev pub Comes : List (List ℕ) → ℕ → ℕ → ℕ → Type 0
Comes edges e = Listed (row edges 1) (row edges 0) e

-- The fewest edges from a source to each node that may be passed.
abbrev pub Nearest : List (List ℕ) → ℕ → List ℕ → List ℕ → ℕ → List ℕ → Type 0
Nearest edges e stops = Leveled (Goes edges e) (Clear stops) (Clear stops)

-- The table is of some edges and stops.
abbrev pub Table : List (List ℕ) → Parts → Type 0
Table edges parts = (e : ℕ) × (stops : List ℕ) × Split edges e stops parts

-- Backward the masks have the bits of the stops at the nodes from which edges lead to them.
abbrev pub Arrives : List (List ℕ) → Parts → List ℕ → ℕ → List ℕ → Type 0
Arrives edges parts sources total masks =
    (e : ℕ) (stops : List ℕ) → Split edges e stops parts → Standing stops sources total → Sown (Comes edges e) sources total masks

-- Such masks, old, become those of paths past no stop, forward and backward.
abbrev pub Proceeds : List (List ℕ) → Parts → List ℕ → List ℕ → Type 0
Proceeds edges parts old new =
    (e : ℕ) (stops sources : List ℕ) (total : ℕ) → Split edges e stops parts → Sown (Goes edges e) sources total old → Spread (Goes edges e) stops sources total new

abbrev pub Recedes : List (List ℕ) → Parts → List ℕ → List ℕ → Type 0
Recedes edges parts old new =
    (e : ℕ) (stops sources : List ℕ) (total : ℕ) → Split edges e stops parts → Sown (Comes edges e) sources total old → Spread (Comes edges e) stops sources total new

-- Both, from any sources.
abbrev pub SpreadsAhead : List (List ℕ) → List ℕ → Parts → List ℕ → ℕ → List ℕ → Type 0
SpreadsAhead edges places parts sources total masks =
    (e : ℕ) (stops : List ℕ) → Split edges e stops parts → Places (row edges 0) e places → Spread (Goes edges e) stops sources total masks

-- Masks go on, from the stops and further sources, where the levels from the stops are told.
abbrev pub GoesOn : List (List ℕ) → List ℕ → Extent → List ℕ → List ℕ → List ℕ → List ℕ → Type 0
GoesOn edges places extent sources levels old new =
    (e : ℕ) (stops : List ℕ) → Split edges e stops extent.parts → Places (row edges 0) e places → Standing stops sources extent.barriers
    → Sown (Goes edges e) sources extent.total old → Nearest edges e stops sources extent.barriers levels
    → Spread (Goes edges e) stops sources extent.total new

-- The levels old, to start from, become the fewest edges: by sweeps, by a search from the stops, by either.
abbrev pub Sweeps : List (List ℕ) → Parts → List ℕ → List ℕ → Type 0
Sweeps edges parts old new =
    (e : ℕ) (stops sources masks : List ℕ) (total : ℕ) → Split edges e stops parts → Sown (Goes edges e) sources total masks → Each Begins masks old
    → Nearest edges e stops sources total new

abbrev pub Searches : List (List ℕ) → List ℕ → List ℕ → ℕ → List ℕ → Type 0
Searches edges places sources total new =
    (e : ℕ) (stops : List ℕ) (parts : Parts) → Split edges e stops parts → Places (row edges 0) e places → Standing stops sources total
    → Nearest edges e stops sources total new

abbrev pub Measures : List (List ℕ) → List ℕ → Parts → List ℕ → ℕ → List ℕ → List ℕ → Type 0
Measures edges places parts sources total old new =
    (e : ℕ) (stops masks : List ℕ) → Split edges e stops parts → Places (row edges 0) e places → Standing stops sources total
    → Sown (Goes edges e) sources total masks → Each Begins masks old → Nearest edges e stops sources total new

-- Starts s of the sources' own edges, levels d and ends t of those of the stops become those of paths past no stop. The stops are the first sources.
abbrev pub Spreads : List (List ℕ) → List ℕ → Extent → List ℕ → List ℕ → List ℕ → List ℕ → List ℕ → List ℕ → List ℕ → Type 0
Spreads edges places extent sources s d t s' d' t' =
    (e : ℕ) (stops own : List ℕ) → Split edges e stops extent.parts → Places (row edges 0) e places → Standing stops sources extent.barriers
    → Sown (Goes edges e) sources extent.total s → Sown (Goes edges e) sources extent.barriers own → Each Begins own d
    → Sown (Comes edges e) sources extent.barriers t
    → Spread (Goes edges e) stops sources extent.total s' × Nearest edges e stops sources extent.barriers d'
    × Spread (Comes edges e) stops sources extent.barriers t'

-- All that is found from the stops, but for what the starts bring to them, and the starts of the further sources.
abbrev pub Boundaries : List (List ℕ) → List ℕ → Extent → List ℕ → List ℕ → List ℕ → List ℕ → Type 0
Boundaries edges places extent sources starts levels ends =
    (e : ℕ) (stops : List ℕ) → Split edges e stops extent.parts → Places (row edges 0) e places → Standing stops sources extent.barriers
    → Spread (Goes edges e) stops sources extent.total starts × Nearest edges e stops sources extent.barriers levels
    × Cleared (Comes edges e) stops sources extent.barriers ends

-- That too.
abbrev pub Gathers : List (List ℕ) → Parts → List ℕ → ℕ → List ℕ → List ℕ → List ℕ → Type 0
Gathers edges parts sources total old new all =
    (e : ℕ) (stops : List ℕ) → Split edges e stops parts → Standing stops sources total → Spread (Goes edges e) stops sources total old
    → Marked (Goes edges e) stops sources total new all
