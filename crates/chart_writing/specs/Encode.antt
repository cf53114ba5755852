-- The bytes of a chart (01: "Bytes of a chart"), from its tables: what `decode` reads back.
-- Assumes nothing.
use Rattle.std.specs.Prelude.{cond, List, [], ◌∷◌, ◌++◌, ℕ, eqb, length}
use Rattle.chart.specs.Format.{Node, Edge, Construct}
use Rattle.chart_writing.specs.Bytes.{field_bytes, trailer_bytes}
use Rattle.chart_writing.specs.Trailer.{trailer_for}

-- The bytes of a record.
abbrev pub node_record : Node → List ℕ
node_record v = v.kind ∷ (v.number ∷ field_bytes v.tag [])

abbrev pub edge_record : Edge → List ℕ
edge_record e = e.from ∷ (e.to ∷ [])

-- In edition 2 the filter stands last; in edition 1 there is none.
abbrev pub construct_record : ℕ → Construct → List ℕ
construct_record edition k = k.kind ∷ (k.parent ∷ field_bytes k.name (cond (eqb edition 2) (field_bytes k.filter []) []))

-- Records one after the other.
unfoldable pub flat : {A : Type 0} → (A → List ℕ) → List A → List ℕ
flat write [] = []
flat write (a ∷ l) = write a ++ flat write l

-- Node records, edge records, construct records, then the trailer.
unfoldable pub encode : ℕ → List Node → List Edge → List Construct → List ℕ
encode edition nodes edges constructs =
    flat node_record nodes
    ++ (flat edge_record edges
    ++ (flat (construct_record edition) constructs
    ++ trailer_bytes (trailer_for edition (length nodes) (length edges) (length constructs))))
