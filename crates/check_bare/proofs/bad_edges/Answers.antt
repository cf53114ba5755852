-- `check_bare::bad_edges` meets its contract.
-- Assumes nothing.
use Rattle.std.proofs.Common.{◌≡◌, ◌∙◌, false, ◌||◌, List, ℕ, ◌+◌, ◌-◌, arith, eqb, leb}
use Rattle.std.proofs.lemmas.Bool.Decides.{nat_tests}
use Rattle.lists.specs.Range.{any}
use Rattle.chart.specs.Format.{decode, edge_at}
use Rattle.chart.specs.Refusal.{bad_nodes, bad_edges}
use Rattle.chart.specs.Checked.{Laid}
use Rattle.chart.specs.declared.format.Chart.{Chart}
use Rattle.chart.proofs.Records.{nodes-length, edges-length, constructs-length}
use Rattle.check_bare.specs.Told.{bad_next}
use Rattle.check_bare.proofs.Rows.{edges-row}
use Rattle.check_bare.proofs.bad_edges.Goals as goal

-- the row by the counts of the chart
row : (s : List ℕ) (chart : Chart) → Laid s chart → chart.constructs ≡ 0 → bad_nodes (decode s) ≡ false
    → let edge = edge_at (decode s).edges in
    let last = chart.edges - 1 in
    (eqb (edge 0).to 0
    || (leb chart.nodes (edge 0).to
    || (leb chart.nodes ((edge last).from + 1)
    || any last (bad_next (decode s)))))
    ≡ bad_edges (decode s)
row s chart laid bare passed =
    let n = nodes-length s chart laid in
    let e = edges-length s chart laid in
    rw (n, e) at (edges-row (decode s) (constructs-length s chart laid ∙ bare) (omega (arith, laid.one-edge)) passed)

pub returns-then-n-from : goal.returns-then-n-from
returns-then-n-from c =
    let r = row c.args.s.now c.args.chart c.requires.0 c.requires.1 c.requires.2 in
    grind (arith, nat_tests, r)

pub returns-else-n-from : goal.returns-else-n-from
returns-else-n-from c =
    let r = row c.args.s.now c.args.chart c.requires.0 c.requires.1 c.requires.2 in
    grind (arith, nat_tests, r)
