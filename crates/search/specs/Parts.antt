-- The edges of a graph between nodes that may be passed, in two parts: rising ones in front, falling ones (and loops) at the back; and
-- those that come to stops.
-- Assumes nothing.
use Rattle.std.specs.Prelude.{◌≡◌, ◌⊎◌, Bool, true, false, List, [], ℕ, ◌+◌, ◌≤◌, ◌<◌, length, get_or, set}
use Rattle.theory_paths.specs.Graph.{Listed, Rising}
use Rattle.theory_paths.specs.Found.{Clear}
use Rattle.search.specs.Sweep.{Between, Lies}
use Rattle.search.specs.declared.edges.Parts.{Parts}

-- An edge that is kept: one of the first j, from no stop, to none.
pub record Kept (keys values stops : List ℕ) (j x y : ℕ) : Type 0 where
  pub edge : Listed keys values j x y
  pub from : Clear stops x
  pub to : Clear stops y

pub record Parted (keys values stops : List ℕ) (j : ℕ) (s t : List ℕ) (ups low : ℕ) : Type 0 where
  pub long-s : length s ≡ 1024
  pub long-t : length t ≡ 1024
  pub few : ups + 1024 ≤ j + low
  pub top : low ≤ 1024
  pub node-s : (i : ℕ) → get_or s i 0 < 192
  pub node-t : (i : ℕ) → get_or t i 0 < 192
  pub up : (i : ℕ) → i < ups → Kept keys values stops j (get_or s i 0) (get_or t i 0) × (get_or s i 0 < get_or t i 0)
  pub down : (i : ℕ) → low ≤ i → i < 1024 → Kept keys values stops j (get_or s i 0) (get_or t i 0) × (get_or t i 0 ≤ get_or s i 0)
  pub all : (i : ℕ) → i < j → Clear stops (get_or keys i 0) → Clear stops (get_or values i 0) → Lies s t ups low (get_or keys i 0) (get_or values i 0)
  pub rising : (i k : ℕ) → i ≤ k → k < ups → get_or s i 0 ≤ get_or s k 0
  pub falling : (i k : ℕ) → low ≤ i → i ≤ k → k < 1024 → get_or s k 0 ≤ get_or s i 0

-- One edge more is written between the parts; it belongs to one of them if it is kept.
pub record Put (x y : ℕ) (keep : Bool) (s t : List ℕ) (ups low : ℕ) (s' t' : List ℕ) (ups' low' : ℕ) : Type 0 where
  pub at : ℕ
  pub is-s : s' ≡ set s at x
  pub is-t : t' ≡ set t at y
  pub inside : (ups ≤ at) × (at < low)
  pub way : ((keep ≡ false) × (ups' ≡ ups) × (low' ≡ low)) ⊎ (((keep ≡ true) × (x < y) × (at ≡ ups) × (ups' ≡ ups + 1) × (low' ≡ low))
      ⊎ ((keep ≡ true) × (y ≤ x) × (at + 1 ≡ low) × (ups' ≡ ups) × (low' ≡ at)))

-- The edges to stops, among the first j.
pub record Come (keys values stops : List ℕ) (j : ℕ) (s t : List ℕ) (n : ℕ) : Type 0 where
  pub long-s : length s ≡ 1024
  pub long-t : length t ≡ 1024
  pub few : n ≤ j
  pub node-s : (i : ℕ) → get_or s i 0 < 192
  pub node-t : (i : ℕ) → get_or t i 0 < 192
  pub only : (i : ℕ) → i < n → Listed keys values j (get_or s i 0) (get_or t i 0) × (Clear stops (get_or t i 0) → ⊥)
  pub all : (i : ℕ) → i < j → (Clear stops (get_or values i 0) → ⊥) → Between s t 0 n (get_or keys i 0) (get_or values i 0)

-- One edge more is written behind them; it belongs to them where it comes to a stop.
pub record Noted (x y stop : ℕ) (s t : List ℕ) (n : ℕ) (s' t' : List ℕ) (n' : ℕ) : Type 0 where
  pub is-s : s' ≡ set s n x
  pub is-t : t' ≡ set t n y
  pub none : stop ≡ 0 → n' ≡ n
  pub one : (stop ≡ 0 → ⊥) → n' ≡ n + 1

-- A row of a table of edges.
abbrev pub row : List (List ℕ) → ℕ → List ℕ
row edges r = get_or edges r []

-- The rows but for two are as they were.
pub record Beside (a b : ℕ) (old new : List (List ℕ)) : Type 0 where
  pub long : length new ≡ length old
  pub same : (r : ℕ) → (r ≡ a → ⊥) → (r ≡ b → ⊥) → row new r ≡ row old r

-- One edge more between the two parts of a table; the other rows and the other part stay.
pub record PutIn (x y : ℕ) (keep : Bool) (old : List (List ℕ)) (parts : Parts) (new : List (List ℕ)) (parts' : Parts) : Type 0 where
  pub put : Put x y keep (row old 2) (row old 3) parts.ups parts.low (row new 2) (row new 3) parts'.ups parts'.low
  pub beside : Beside 2 3 old new
  pub ins : parts'.ins ≡ parts.ins

-- One edge more behind those of a table that come to stops; the other rows and the other parts stay.
pub record NotedIn (x y stop : ℕ) (old : List (List ℕ)) (parts : Parts) (new : List (List ℕ)) (parts' : Parts) : Type 0 where
  pub noted : Noted x y stop (row old 4) (row old 5) parts.ins (row new 4) (row new 5) parts'.ins
  pub beside : Beside 4 5 old new
  pub ups : parts'.ups ≡ parts.ups
  pub low : parts'.low ≡ parts.low

-- The table of the first e edges.
pub record Split (edges : List (List ℕ)) (e : ℕ) (stops : List ℕ) (parts : Parts) : Type 0 where
  pub few : e ≤ 1024
  pub from : (j : ℕ) → get_or (row edges 0) j 0 < 192
  pub to : (j : ℕ) → get_or (row edges 1) j 0 < 192
  pub order : Rising (row edges 0) e
  pub plain : Parted (row edges 0) (row edges 1) stops e (row edges 2) (row edges 3) parts.ups parts.low
  pub come : Come (row edges 0) (row edges 1) stops e (row edges 4) (row edges 5) parts.ins

-- A table of edges has six rows; those of all edges have room for 1024.
pub record Sized (edges : List (List ℕ)) : Type 0 where
  pub six : length edges ≡ 6
  pub from : length (row edges 0) ≡ 1024
  pub to : length (row edges 1) ≡ 1024

-- An edge from x to y may stand behind the first j of a split table: there is room, and it leaves no lower node than they do.
pub record Next (edges : List (List ℕ)) (j : ℕ) (stops : List ℕ) (parts : Parts) (x y : ℕ) : Type 0 where
  pub split : Split edges j stops parts
  pub sized : Sized edges
  pub within : j < 1024
  pub from : x < 192
  pub to : y < 192
  pub most : (i : ℕ) → i < j → get_or (row edges 0) i 0 ≤ x
