-- `check_bare::bad_nodes` meets its contract.
-- Assumes nothing.
use mathlib.Core.Path.{◌∙◌}
use native.Mathlib.Omega.{arith}
use Rattle.chart.specs.Format.{decode}
use Rattle.chart.proofs.Records.{constructs-length}
use Rattle.check_bare.proofs.Places.{node-places}
use Rattle.check_bare.proofs.Rows.{nodes-row}
use Rattle.check_bare.proofs.bad_nodes.Goals as goal

pub returns : goal.returns
returns c =
    let s = c.args.s.now in
    let (laid, bare) = c.requires in
    c.highest_node.ensures.reaches 2 (omega arith)
    ∙ node-places 2 (omega arith) (omega arith) s c.args.chart laid
    ∙ nodes-row (decode s) (constructs-length s c.args.chart laid ∙ bare)
