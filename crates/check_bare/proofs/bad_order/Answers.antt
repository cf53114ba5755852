-- `check_bare::bad_order` meets its contract.
-- Assumes nothing.
use mathlib.Core.Path.{ap, ◌∙◌}
use Prim.Native.Nat.{◌-◌}
use native.Mathlib.Omega.{arith}
use lib.Dec.{leb}
use Rattle.lists.specs.Range.{any_same}
use Rattle.chart.specs.Format.{decode}
use Rattle.chart.proofs.Records.{nodes-length}
use Rattle.check_bare.specs.Told.{bad_next}
use Rattle.check_bare.proofs.Places.{edge_places}
use Rattle.check_bare.proofs.Rows.{told-next}
use Rattle.check_bare.proofs.bad_order.Goals as goal

pub returns : goal.returns
returns c =
    let s = c.args.s.now in
    let chart = c.args.chart in
    let laid = c.requires in
    let n = nodes-length s chart laid in
    ap (leb chart.nodes) c.from.ensures
    ∙ c.highest_edge.ensures.reaches chart.nodes (omega (arith, laid.two-nodes))
    ∙ edge_places chart.nodes (omega (arith, laid.two-nodes)) (omega (arith, laid.nodes-most)) s chart laid
    ∙ any_same (chart.edges - 1) _ (bad_next (decode s)) (λ i l. rw n at (told-next (decode s) i (omega (arith, laid.two-nodes)) (omega (arith, laid.nodes-most))))
