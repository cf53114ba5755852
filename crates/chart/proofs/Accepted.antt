-- What the refusals leave: bytes that rows 1 to 4 let pass are laid out, and each region that is read from a chart that rows 1 to 9 let
-- pass is well formed.
-- Assumes nothing.
use mathlib.Core.Path.{◌≡◌, refl}
use mathlib.Core.Bool.{◌||◌, not}
use mathlib.Core.List.{List}
use mathlib.Core.Option.{none}
use Prim.Native.Nat.{ℕ, ◌≤◌}
use native.Mathlib.Omega.{arith}
use lib.Dec.{eqb, ltb}
use lib.ListN.{length}
use borrow.Author.Tests.{ltb-false}
use Rattle.lists.specs.Truth.{or-neither, not_eqb}
use Rattle.chart.specs.Format.{outside, Decoded, decode, size}
use Rattle.chart.specs.Refusal.{bad_counts, bad_lengths, first_of, trailer_rows, table_rows, chart_rows}
use Rattle.chart.specs.Checked.{Laid, counts_of}
use Rattle.chart.specs.Reading.{region_of}
use Rattle.chart.specs.WellFormed.{WellFormed}
use Rattle.chart.proofs.Records.{constructs-length}
use Rattle.chart.proofs.NestingFacts.{constructs-fit, fit-constructs}
use Rattle.chart.proofs.Facts.{Named, TablesFit, nodes-fit, fit-nodes, frames-fit, fit-frames, barriers-fit, fit-barriers, edges_fit, fit_edges}
use Rattle.chart.proofs.Rows.{none-applies, applies-none, both-pass}
use Rattle.chart.proofs.Whole.{reads}
use Rattle.chart.proofs.Laws.{laws}

pub laid : (s : List ℕ) → first_of (trailer_rows s) ≡ none → Laid s (counts_of s)
unfolding trailer_rows bad_counts bad_lengths counts_of
laid s h =
    let t = (decode s).trailer in
    let rows = none-applies (trailer_rows s) h in
    let counts = or-neither (ltb t.nodes 2 || ltb 192 t.nodes) _ rows.1.1.0 in
    let nodes = or-neither (ltb t.nodes 2) (ltb 192 t.nodes) counts.0 in
    let rest = or-neither (ltb t.edges 1 || ltb 1024 t.edges) (ltb 48 t.constructs) counts.1 in
    let edges = or-neither (ltb t.edges 1) (ltb 1024 t.edges) rest.0 in
    let bytes = size t.edition t.nodes t.edges t.constructs in
    let whole = or-neither (not (eqb (length s) bytes)) _ rows.1.1.1.0 in
    record {
      same-edition = refl;
      node-count = refl;
      edge_count = refl;
      construct-count = refl;
      two-nodes = ltb-false t.nodes 2 nodes.0;
      nodes-most = ltb-false 192 t.nodes nodes.1;
      one-edge = ltb-false t.edges 1 edges.0;
      edges_most = ltb-false 1024 t.edges edges.1;
      constructs-most = ltb-false 48 t.constructs rest.1;
      whole = not_eqb (length s) bytes whole.0;
    }

pub fit-tables : (D : Decoded) → TablesFit D → first_of (table_rows D) ≡ none
unfolding table_rows
fit-tables D F = applies-none (table_rows D) (
  fit-nodes D F.nodes,
  (
    fit-constructs D F.constructs,
    (
      fit-frames D F.frames,
      (fit-barriers D F.barriers, (fit_edges D F.edges, tt)),
    ),
  ),
)

pub tables-fit : (D : Decoded) → first_of (table_rows D) ≡ none → TablesFit D
unfolding table_rows
tables-fit D h =
    let rows = none-applies (table_rows D) h in
    record {
      nodes = nodes-fit D rows.0;
      constructs = constructs-fit D rows.1.0;
      frames = frames-fit D rows.1.1.0;
      barriers = barriers-fit D rows.1.1.1.0;
      edges = edges_fit D rows.1.1.1.1.0;
    }

-- row 3 gives the bound, which keeps the number `outside` free
pub well-formed-tables : (D : Decoded) → length D.constructs ≤ outside → TablesFit D → (p : ℕ) → Named D.constructs p → WellFormed (region_of p D)
well-formed-tables D few F p N = laws (reads D F few p N)

-- the tables of a chart that rows 1 to 9 let pass
pub fits : (s : List ℕ) → first_of (chart_rows s) ≡ none → (length (decode s).constructs ≤ outside) × TablesFit (decode s)
unfolding chart_rows
fits s h =
    let pass = both-pass (trailer_rows s) (table_rows (decode s)) h in
    let bytes = laid s pass.0 in
    (omega (arith, constructs-length s (counts_of s) bytes, bytes.constructs-most), tables-fit (decode s) pass.1)

pub well-formed : (s : List ℕ) → first_of (chart_rows s) ≡ none → (p : ℕ) → Named (decode s).constructs p → WellFormed (region_of p (decode s))
well-formed s h p N = let f = fits s h in well-formed-tables (decode s) f.0 f.1 p N
