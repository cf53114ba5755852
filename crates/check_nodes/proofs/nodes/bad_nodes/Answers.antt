-- `check_nodes::nodes::bad_nodes` meets its contract.
-- Assumes nothing.
use Rattle.std.proofs.Common.{◌≡◌, ◌∙◌, ap, List, ℕ, ◌-◌, ◌||◌, length, arith}
use Rattle.std.proofs.lemmas.Bool.Decides.{nat_tests}
use Rattle.lists.specs.Range.{any}
use Rattle.chart.specs.Format.{decode}
use Rattle.chart.specs.Refusal.{bad_nodes}
use Rattle.chart.specs.Checked.{Laid}
use Rattle.chart.specs.declared.format.Chart.{Chart}
use Rattle.chart.proofs.Records.{nodes-length}
use Rattle.check_nodes.specs.Parts.{alone_at, names_region}
use Rattle.check_nodes.proofs.Alone.{none-bad}
use Rattle.check_nodes.proofs.Outer.{parts}
use Rattle.check_nodes.proofs.nodes.bad_nodes.Goals as goal

-- the row in its parts, by the count of the chart
row : (s : List ℕ) (chart : Chart) → Laid s chart
    → bad_nodes (decode s) ≡ ((names_region (decode s) 0 || names_region (decode s) (chart.nodes - 1)) || any (length (decode s).nodes) (alone_at (decode s)))
row s chart L =
    let n = nodes-length s chart L in
    parts (decode s) (omega (arith, n, L.two-nodes))
    ∙ ap (λ (m : ℕ). (names_region (decode s) 0 || names_region (decode s) (m - 1)) || any (length (decode s).nodes) (alone_at (decode s))) n

pub returns-then-names_region-2 : goal.returns-then-names_region-2
returns-then-names_region-2 c = let r = row c.args.s.now c.args.chart c.requires in grind (arith, nat_tests, r)

pub returns-then-any_doubtful : goal.returns-then-any_doubtful
returns-then-any_doubtful c = let r = row c.args.s.now c.args.chart c.requires in grind (arith, nat_tests, r)

pub returns-else-any_doubtful : goal.returns-else-any_doubtful
returns-else-any_doubtful c = let r = row c.args.s.now c.args.chart c.requires in grind (arith, nat_tests, r, none-bad (decode c.args.s.now))
