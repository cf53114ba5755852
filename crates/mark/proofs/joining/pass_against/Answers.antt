-- `mark::joining::pass_against` meets its contract: the barriers from `left` on have had their turn.
-- Assumes nothing.
use native.Mathlib.Omega.{arith}
use Rattle.mark.proofs.JoiningLaws.{passed_none, against-more}
use Rattle.mark.proofs.joining.pass_against.Goals as goal

pub loop-b-init : goal.loop-b-init
loop-b-init c = (omega arith, passed_none _ _ _ (λ b c d. omega (arith, d.0, d.1)))

pub loop-b-preserved : goal.loop-b-preserved
loop-b-preserved c =
    let args = c.args in
    let r = c.join_with-all.ensures in
    (omega arith, against-more args.masks.now args.nodes.now args.total c.loop-b.b _ (omega arith) c.loop-b.invariant.1 r)
