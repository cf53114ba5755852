-- The table of a region's edges in columns lists the region's edges; and the places in it.
-- Assumes nothing.
use mathlib.Core.Path.{◌≡◌, ap, sym, ◌∙◌, subst}
use mathlib.Core.List.{List}
use Prim.Native.Nat.{ℕ, ◌≤◌, ◌<◌}
use native.Mathlib.Omega.{arith}
use lib.ListN.{length, get_or-eq_default}
use borrow.Author.Tests.{lt-ltb}
use Rattle.lists.specs.Range.{count}
use Rattle.lists.specs.Counting.{count-all}
use Rattle.lists.specs.Recount.{count_same}
use Rattle.lists.specs.Select.{select-passes}
use Rattle.chart.specs.Format.{Edge, Decoded, decode, edge_at}
use Rattle.chart.specs.Checked.{reading}
use Rattle.chart.specs.declared.format.Chart.{Chart}
use Rattle.chart.proofs.Records.{nodes-length}
use Rattle.chart.proofs.Facts.{EdgeFits}
use Rattle.theory_paths.specs.Graph.{lower, Places}
use Rattle.theory_paths.specs.Cut.{keeps, cut, edges_of, CutColumns, listed-edge, edge-listed, edges-long, edges_at}
use Rattle.search.specs.Parts.{row, Split}
use Rattle.search.specs.declared.edges.Parts.{Parts}
use Rattle.mark_tables.proofs.Accepted.{tables}
use Rattle.mark_tables.specs.Tables.{Accepted, Columns, first_edge, FirstEdges, Tabled, Arranged, Handed}

-- past the last record an edge leads from 0 to 0
pub edge-past : (edges : List Edge) (i : ℕ) → length edges ≤ i → ((edge_at edges i).from ≡ 0) × ((edge_at edges i).to ≡ 0)
unfolding edge_at
edge-past edges i l =
    let q = get_or-eq_default edges (record { from = 0; to = 0 }) l in
    (ap (λ (e : Edge). e.from) q, ap (λ (e : Edge). e.to) q)

-- the places, as the table has them and as its columns do

lower-same : {edges : List Edge} {froms tos : List ℕ} → Columns edges froms tos → (x : ℕ) → count (length edges) (lower froms x) ≡ first_edge edges x
unfolding first_edge
lower-same {edges} C x = count_same (length edges) _ _ (λ i _. rw (C.from i))

pub first-edges : {edges : List Edge} {froms tos places : List ℕ} {e : ℕ} → Columns edges froms tos → e ≡ length edges → Places froms e places → FirstEdges edges places
first-edges {froms = froms} C q P = record {
  long = P.long;
  at = λ x h. P.at x h ∙ ap (λ (n : ℕ). count n (lower froms x)) q ∙ lower-same C x;
}

pub places-first : {edges : List Edge} {froms tos places : List ℕ} → Columns edges froms tos → FirstEdges edges places → Places froms (length edges) places
places-first C F = record { long = F.long; at = λ x h. F.at x h ∙ sym (lower-same C x) }

module _ (s : List ℕ) (chart : Chart) (A : Accepted s chart) where
  abbrev D : Decoded
  D = decode s

  abbrev p : ℕ
  p = chart.region

  -- an edge of the region is one of the chart
  edge-fits : (i : ℕ) → i < length (edges_of p D) → EdgeFits D.nodes D.constructs (edge_at (edges_of p D) i).from (edge_at (edges_of p D) i).to
  edge-fits i l =
      let m : i < length (cut D p) = omega (arith, edges-long D p) in
      rw (edges_at D p i m) ((tables s chart A).edges.alone _ (select-passes (length D.edges) (keeps D p) i m).0)

  module _ {stops : List ℕ} {table : List (List ℕ)} {total : ℕ} {parts : Parts} (T : Tabled p D stops table total parts) where
    as-cut : CutColumns D p (row table 0) (row table 1) total
    as-cut = record {
      total = T.count ∙ edges-long D p;
      from = λ j l. T.columns.from j ∙ ap (λ (e : Edge). e.from) (edges_at D p j (omega (arith, T.count, edges-long D p)));
      to = λ j l. T.columns.to j ∙ ap (λ (e : Edge). e.to) (edges_at D p j (omega (arith, T.count, edges-long D p)));
    }

    pub arranged : {places : List ℕ} → Places (row table 0) total places → Arranged (reading s chart) table places stops parts
    arranged P = record {
      count = total;
      split = T.split;
      begins = P;
      listed-edge = listed-edge as-cut;
      edge-listed = edge-listed as-cut;
    }

    pub handed : {places : List ℕ} → FirstEdges (edges_of p D) places → Handed p D table places parts
    unfolding first_edge
    handed F = record {
      stops = stops;
      split = subst (λ (n : ℕ). Split table n stops parts) T.count T.split;
      columns = T.columns;
      begins = F;
      past = F.at (length D.nodes) (omega (arith, nodes-length s chart A.laid, A.laid.nodes-most))
          ∙ count-all (length (edges_of p D)) _ (λ i l. lt-ltb _ _ (edge-fits i l).from-below);
    }
