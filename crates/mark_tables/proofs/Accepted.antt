-- What rows 1 to 9 leave: a chart that `check` passes is accepted, its tables fit, and each of its regions is well formed.
-- Assumes nothing.
use Rattle.std.specs.Prelude.{Ok}
use mathlib.Core.Path.{◌≡◌, ap, sym, subst}
use mathlib.Core.Logic.{inl, inr}
use mathlib.Core.List.{List}
use mathlib.Core.Option.{none}
use Prim.Native.Nat.{ℕ, ◌≤◌, ◌<◌}
use native.Mathlib.Omega.{arith}
use lib.ListN.{length}
use Rattle.chart.specs.Format.{outside, decode}
use Rattle.chart.specs.WellFormed.{WellFormed}
use Rattle.chart.specs.Refusal.{first_of, trailer_rows, table_rows, chart_rows}
use Rattle.chart.specs.Checked.{Laid, counts_of, read_for, checked, reading}
use Rattle.chart.specs.declared.format.Chart.{Chart}
use Rattle.chart.proofs.Records.{constructs-length}
use Rattle.chart.proofs.Constructs.{parallel-below}
use Rattle.chart.proofs.Rows.{both-pass}
use Rattle.chart.proofs.Facts.{Named, TablesFit}
use Rattle.chart.proofs.Accepted.{laid, tables-fit, well-formed-tables}
use Rattle.check_chart.proofs.Outcome.{passed_none}
use Rattle.mark_tables.specs.Tables.{Accepted}

pub passed : (s : List ℕ) (chart : Chart) → checked s ≡ Ok chart → first_of (chart_rows s) ≡ none
unfolding checked
passed s chart h = (passed_none _ (counts_of s) chart h).0

pub accepted : (s : List ℕ) (chart : Chart) → checked s ≡ Ok chart → Accepted s chart
unfolding checked chart_rows counts_of
accepted s chart h =
    let both = both-pass (trailer_rows s) (table_rows (decode s)) (passed s chart h) in
    let q = (passed_none _ (counts_of s) chart h).1 in
    record { laid = subst (Laid s) q (laid s both.0); passes = both.1; named = inl (sym (ap (λ (k : Chart). k.region) q)) }

-- read for another of its regions
pub accepted-for : (s : List ℕ) (chart : Chart) → Accepted s chart → (p : ℕ) → Named (decode s).constructs p → Accepted s (read_for chart p)
accepted-for s chart A p N =
    let L = A.laid in
    record {
      laid = record {
        same-edition = L.same-edition;
        node-count = L.node-count;
        edge_count = L.edge_count;
        construct-count = L.construct-count;
        two-nodes = L.two-nodes;
        nodes-most = L.nodes-most;
        one-edge = L.one-edge;
        edges_most = L.edges_most;
        constructs-most = L.constructs-most;
        whole = L.whole;
      };
      passes = A.passes;
      named = N;
    }

module _ (s : List ℕ) (chart : Chart) (A : Accepted s chart) where
  pub tables : TablesFit (decode s)
  tables = tables-fit (decode s) A.passes

  pub few-constructs : length (decode s).constructs ≤ outside
  few-constructs = omega (arith, constructs-length s chart A.laid, A.laid.constructs-most)

  pub well-formed : WellFormed (reading s chart)
  well-formed = well-formed-tables (decode s) few-constructs tables chart.region A.named

  -- the region by one byte
  pub region-byte : chart.region < 256
  region-byte = elim A.named [
    | inl q ↦ omega (arith, q)
    | inr p ↦ omega (arith, parallel-below (decode s).constructs chart.region p, few-constructs)
  ]
