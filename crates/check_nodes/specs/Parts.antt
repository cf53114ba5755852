-- The parts of row 5.
-- Assumes nothing.
use Rattle.std.specs.Prelude.{Bool, ◌&&◌, ◌||◌, not, cond, ℕ, eqb, ltb, leb, length}
use Rattle.chart.specs.Format.{outside, Decoded, node_at}
use Rattle.chart.specs.Scope.{barrier_node, begin_node, end_node}
use Rattle.chart.specs.Refusal.{bad_node}

-- Row 5, of node x by itself.
abbrev pub alone_at : Decoded → ℕ → Bool
alone_at D x = bad_node D.constructs (node_at D.nodes x).kind (node_at D.nodes x).number

-- Node x is a barrier that names a region.
abbrev pub names_region : Decoded → ℕ → Bool
names_region D x = eqb (node_at D.nodes x).kind barrier_node && not (eqb (node_at D.nodes x).number outside)

-- A node that may be bad by itself, by its bytes and how many constructs there are: a bad one, and any barrier that names a construct.
unfoldable pub doubtful : ℕ → ℕ → ℕ → Bool
doubtful constructs kind number =
    ltb end_node kind || cond (eqb number outside) (leb begin_node kind) (leb constructs number || eqb kind barrier_node)

abbrev pub doubtful_at : Decoded → ℕ → Bool
doubtful_at D x = doubtful (length D.constructs) (node_at D.nodes x).kind (node_at D.nodes x).number
