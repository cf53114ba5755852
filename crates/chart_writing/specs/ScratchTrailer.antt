-- The bytes of a trailer in two halves, and the counts that fit its fields.
-- Assumes nothing.
use Rattle.std.specs.Prelude.{List, [], ℕ, ◌+◌, ◌*◌, ◌≤◌}
use Rattle.chart.specs.Format.{construct_bytes, size, trailer_size}
use Rattle.chart.specs.declared.format.Chart.{Chart}
use Rattle.chart_writing.specs.Bytes.{field_bytes}

-- The limits, and one edge above them.
abbrev pub Small : Chart → Type 0
Small chart = (chart.edition ≤ 2) × (chart.nodes ≤ 192) × (chart.edges ≤ 1025) × (chart.constructs ≤ 48)

abbrev pub count_bytes : Chart → List ℕ
count_bytes chart = field_bytes chart.edition (field_bytes chart.nodes (field_bytes chart.edges (field_bytes chart.constructs [])))

abbrev pub distance_bytes : Chart → List ℕ
distance_bytes chart =
    let constructs = construct_bytes chart.edition chart.constructs + trailer_size in
    let edges = 2 * chart.edges + construct_bytes chart.edition chart.constructs + trailer_size in
    field_bytes (size chart.edition chart.nodes chart.edges chart.constructs) (field_bytes edges (field_bytes constructs (field_bytes 0x434F [])))
