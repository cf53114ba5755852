-- The bytes of a record (01: "Bytes of a chart"), from what it says.
-- Assumes nothing.
use Rattle.std.specs.Prelude.{List, [], ◌∷◌, ℕ, ◌/◌, ◌%◌, ◌<◌, get_or}
use Rattle.chart.specs.Format.{Trailer}

-- Every element is a byte, as in every slice of bytes.
abbrev pub AllBytes : List ℕ → Type 0
AllBytes s = (j : ℕ) → get_or s j 0 < 256

-- A field of two bytes, little-endian, and what follows it.
abbrev pub field_bytes : ℕ → List ℕ → List ℕ
field_bytes v rest = v % 256 ∷ (v / 256 ∷ rest)

abbrev pub trailer_bytes : Trailer → List ℕ
trailer_bytes t =
    field_bytes t.edition (field_bytes t.nodes (field_bytes t.edges (field_bytes t.constructs
    (field_bytes t.to-nodes (field_bytes t.to-edges (field_bytes t.to-constructs (field_bytes t.closing [])))))))
