-- What putting together a chart with other edges rests on.
-- Assumes nothing.
use Rattle.std.specs.Prelude.{◌≡◌, List, ℕ}
use Rattle.std.proofs.Math.Option.{none}
use Rattle.chart.specs.Refusal.{first_of, trailer_rows}
use Rattle.chart.specs.Checked.{counts_of}
use Rattle.chart.specs.declared.format.Chart.{Chart}
use Rattle.theory_paths.specs.Admission.{Admitted}

-- Bytes that rows 1 to 4 let pass, with their edition and counts.
abbrev pub LaidAs : List ℕ → Chart → Type 0
LaidAs s chart = (first_of (trailer_rows s) ≡ none) × (chart ≡ counts_of s)

-- The same of rows 1 to 10.
abbrev pub AdmittedAs : List ℕ → Chart → Type 0
AdmittedAs s chart = Admitted s × (chart ≡ counts_of s)

-- The same chart with another count of edges.
abbrev pub with_edges : Chart → ℕ → Chart
with_edges chart edges = record {
  edition = chart.edition;
  nodes = chart.nodes;
  edges = edges;
  constructs = chart.constructs;
  region = chart.region;
}
