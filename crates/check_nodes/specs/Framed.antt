-- Where the constructs begin and end, as row 7 finds it.
-- Assumes nothing.
use Rattle.std.specs.Prelude.{◌≡◌, ◌⊎◌, ◌≢◌, Bool, List, ℕ, ◌+◌, ◌*◌, ◌%◌, ◌<◌, eqb, leb, length, get_or}
use Rattle.lists.specs.Range.{any, count}
use Rattle.chart.specs.Format.{Decoded, node_at}
use Rattle.chart.specs.Scope.{begin_node, end_node}
use Rattle.chart.specs.Reading.{frame_of}

-- For each construct its node of a kind, begin or end.
pub record Framed (D : Decoded) (kind : ℕ) (frames : List ℕ) : Type 0 where
  pub at : (c : ℕ) → c < length D.constructs → get_or frames c 0 ≡ frame_of D.nodes kind c
  pub node : (c : ℕ) → get_or frames c 0 < 192
  pub there : (c : ℕ) → c < length D.constructs → (node_at D.nodes (frame_of D.nodes kind c)).kind ≡ kind

-- For each construct its begin, and its end.
abbrev pub BothFramed : Decoded → List ℕ → List ℕ → Type 0
BothFramed D begins ends = Framed D begin_node begins × Framed D end_node ends

-- Where a node is noted, by its kind and number: a row of 64 places for each kind.
abbrev pub place_of : Decoded → ℕ → ℕ
place_of D x = (node_at D.nodes x).kind * 64 + (node_at D.nodes x).number % 64

-- In place of a node, that none was noted.
abbrev pub not_noted : ℕ
not_noted = 255

-- The node of this kind that was noted for construct c.
abbrev pub noted_at : ℕ → List ℕ → ℕ → ℕ
noted_at kind noted c = get_or noted (kind * 64 + c) 0

-- Some of the first n constructs has no node of this kind noted.
abbrev pub lacking : ℕ → ℕ → List ℕ → Bool
lacking kind n noted = any n (λ c. eqb (noted_at kind noted c) not_noted)

-- What stands in a place when the first x nodes are noted: one of those whose place it is, or, where there are none, that none was noted.
abbrev pub Stands : Decoded → ℕ → ℕ → ℕ → Type 0
Stands D x place v = ((v < x) × (place_of D v ≡ place)) ⊎ ((v ≡ not_noted) × ((y : ℕ) → y < x → place_of D y ≢ place))

-- The first x nodes, and how many of them are begins and ends.
pub record Noted (D : Decoded) (x : ℕ) (noted : List ℕ) (frames : ℕ) : Type 0 where
  pub long : length noted ≡ 256
  pub at : (place : ℕ) → place < 256 → Stands D x place (get_or noted place 0)
  pub counted : frames ≡ count x (λ y. leb begin_node (node_at D.nodes y).kind)
