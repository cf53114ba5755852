-- A chart with one edge more, and with one less, as bytes: the record at its place, and the trailer rewritten.
-- Assumes nothing.
use Rattle.std.specs.Prelude.{◌≡◌, List, ◌∷◌, ◌++◌, ℕ, ◌+◌, ◌*◌, ◌-◌, length, take, drop}
use Rattle.lists.specs.Range.{count}
use Rattle.chart.specs.Format.{Edge, Trailer, Decoded, decode, edge_at, trailer_size}
use Rattle.chart.specs.Refusal.{rises}
use Rattle.chart_writing.specs.Bytes.{trailer_bytes}

-- How many edges stand below (from, to) in the order of row 9: the place of that edge's record among the edges, from 0 (02: place).
unfoldable pub place : List Edge → ℕ → ℕ → ℕ
place edges from to = count (length edges) (λ i. rises (edge_at edges i).from (edge_at edges i).to from to)

-- The trailer for one edge more. The distance to the constructs stays.
unfoldable pub longer : Trailer → Trailer
longer t = record {
  edition = t.edition;
  nodes = t.nodes;
  edges = t.edges + 1;
  constructs = t.constructs;
  to-nodes = t.to-nodes + 2;
  to-edges = t.to-edges + 2;
  to-constructs = t.to-constructs;
  closing = t.closing;
}

-- And for one less.
unfoldable pub shorter : Trailer → Trailer
shorter t = record {
  edition = t.edition;
  nodes = t.nodes;
  edges = t.edges - 1;
  constructs = t.constructs;
  to-nodes = t.to-nodes - 2;
  to-edges = t.to-edges - 2;
  to-constructs = t.to-constructs;
  closing = t.closing;
}

-- The byte where the record of (from, to) stands, or would stand.
unfoldable pub record_at : List ℕ → ℕ → ℕ → ℕ
record_at s from to = 4 * (decode s).trailer.nodes + 2 * place (decode s).edges from to

-- The records from byte `at` on, up to the trailer.
unfoldable pub records_from : List ℕ → ℕ → List ℕ
records_from s at = take (length s - trailer_size - at) (drop at s)

-- The chart with the edge (from, to).
unfoldable pub inserted : List ℕ → ℕ → ℕ → List ℕ
inserted s from to =
    let at = record_at s from to in
    take at s ++ (from ∷ to ∷ (records_from s at ++ trailer_bytes (longer (decode s).trailer)))

-- The chart without the edge (from, to), which is one of its edges.
unfoldable pub removed : List ℕ → ℕ → ℕ → List ℕ
removed s from to =
    let at = record_at s from to in
    take at s ++ (records_from s (at + 2) ++ trailer_bytes (shorter (decode s).trailer))

-- `new` is the chart `old` with the edge (x, y) at its place, and else the same. Only the trailer's numbers differ.
pub record WithEdge (old new : Decoded) (x y : ℕ) : Type 0 where
  pub before : List Edge
  pub after : List Edge
  pub edges-old : old.edges ≡ before ++ after
  pub edges-new : new.edges ≡ before ++ (record { from = x; to = y } ∷ after)
  pub at_place : length before ≡ place old.edges x y
  pub nodes : new.nodes ≡ old.nodes
  pub constructs : new.constructs ≡ old.constructs
  pub edition : new.trailer.edition ≡ old.trailer.edition
