-- What checking a chart answers, and what the checks of single rows rest on.
-- Assumes nothing.
use Rattle.std.specs.Prelude.{◌≡◌, List, ℕ, ◌≤◌, length, Result, Ok, Err}
use Rattle.std.proofs.Math.Option.{Option, none, some}
use Rattle.chart.specs.Format.{outside, decode, size}
use Rattle.chart.specs.Region.{Region}
use Rattle.chart.specs.Reading.{region_of}
use Rattle.chart.specs.Refusal.{first_of, chart_rows}
use Rattle.chart.specs.declared.format.Chart.{Chart}
use Rattle.chart.specs.declared.format.Refusal.{Refusal}

-- The edition and the counts that a trailer gives, of a chart that is read for its outermost region.
unfoldable pub counts_of : List ℕ → Chart
counts_of s = record {
  edition = (decode s).trailer.edition;
  nodes = (decode s).trailer.nodes;
  edges = (decode s).trailer.edges;
  constructs = (decode s).trailer.constructs;
  region = outside;
}

-- The same chart, read for the region p.
abbrev pub read_for : Chart → ℕ → Chart
read_for chart p = record {
  edition = chart.edition;
  nodes = chart.nodes;
  edges = chart.edges;
  constructs = chart.constructs;
  region = p;
}

unfoldable pub checked_by : Option Refusal → Chart → Result Chart Refusal
checked_by none chart = Ok chart
checked_by (some refusal) chart = Err refusal

-- Rows 1 to 9 over the bytes of a chart.
unfoldable pub checked : List ℕ → Result Chart Refusal
checked s = checked_by (first_of (chart_rows s)) (counts_of s)

-- The region that the bytes of a chart are read for.
abbrev pub reading : List ℕ → Chart → Region
reading s chart = region_of chart.region (decode s)

-- Bytes that rows 1 to 4 let pass, with their edition and counts, an equation for each.
pub record Laid (s : List ℕ) (chart : Chart) : Type 0 where
  pub same-edition : chart.edition ≡ (decode s).trailer.edition
  pub node-count : chart.nodes ≡ (decode s).trailer.nodes
  pub edge_count : chart.edges ≡ (decode s).trailer.edges
  pub construct-count : chart.constructs ≡ (decode s).trailer.constructs
  pub two-nodes : 2 ≤ chart.nodes
  pub nodes-most : chart.nodes ≤ 192
  pub one-edge : 1 ≤ chart.edges
  pub edges_most : chart.edges ≤ 1024
  pub constructs-most : chart.constructs ≤ 48
  pub whole : length s ≡ size chart.edition chart.nodes chart.edges chart.constructs
