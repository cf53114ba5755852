-- What nodes hold, by the places of their records in a table, and how far the pass over the nodes has come.
-- Assumes nothing.
use Rattle.std.specs.Prelude.{◌≡◌, List, ℕ, ◌+◌, ◌*◌, ◌/◌, ◌%◌, ◌≤◌, ◌<◌, length, get_or}
use Rattle.std.specs.Int.Bits.{bit_and, bit_or}
use Rattle.chart.specs.Format.{Decoded, node_at}
use Rattle.chart.specs.Scope.{begin_node, parent_of}
use Rattle.chart.specs.Region.{Region}
use Rattle.answer_constructs.specs.Chains.{mask_at}
use Rattle.answer_constructs.specs.Marks.{Held}

-- Place c is that of the nodes that lie in construct c, place 64 + c that of its begin and its end, and place 63 that of nodes in no construct.
abbrev pub place_of : ℕ → ℕ → ℕ
place_of kind number = kind / 2 * 64 + number % 64

-- The places of the constructs below `done`, given what is held in each construct and what their begins and ends hold of it.
pub record Places (D : Decoded) (chains : List ℕ) (inside done : ℕ) (places : List ℕ) : Type 0 where
  pub long : length places ≡ 128
  pub none : get_or places 63 0 ≡ 0
  pub inner : (c : ℕ) → c < done → get_or places c 0 ≡ get_or chains c 0
  pub frame : (c : ℕ) → c < done → get_or places (64 + c) 0 ≡ bit_or (mask_at chains (parent_of D.constructs c)) (bit_and (get_or chains c 0) inside)

-- The masks of the nodes below x, given those of the constructs: a node has what the construct has that it lies in, a begin or an end what is held
-- around its construct and the bits of `inside` held in it. What stands past these nodes stays.
pub record LaidOut (D : Decoded) (chains : List ℕ) (inside x : ℕ) (old masks : List ℕ) : Type 0 where
  pub long : length masks ≡ 192
  pub plain : (y : ℕ) → y < x → (node_at D.nodes y).kind < begin_node → get_or masks y 0 ≡ mask_at chains (node_at D.nodes y).number
  pub frame : (y : ℕ) → y < x → begin_node ≤ (node_at D.nodes y).kind
      → get_or masks y 0 ≡ bit_or (mask_at chains (parent_of D.constructs (node_at D.nodes y).number)) (bit_and (mask_at chains (node_at D.nodes y).number) inside)
  pub past : (y : ℕ) → x ≤ y → get_or masks y 0 ≡ get_or old y 0

-- The nodes below x have the masks of what they hold; all others have 0 so far.
pub record HeldBelow (R : Region) (x : ℕ) (held : List ℕ) : Type 0 where
  pub long : length held ≡ 192
  pub has-held : (y : ℕ) → y < x → Held R y (get_or held y 0)
  pub rest : (y : ℕ) → x ≤ y → get_or held y 0 ≡ 0
