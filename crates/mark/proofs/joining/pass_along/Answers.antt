-- `mark::joining::pass_along` meets its contract: after b turns the first b barriers have had theirs.
-- Assumes nothing.
use native.Mathlib.Omega.{arith}
use Rattle.mark.proofs.JoiningLaws.{passed_none, along-more}
use Rattle.mark.proofs.joining.pass_along.Goals as goal

pub loop-b-init : goal.loop-b-init
loop-b-init c = (omega arith, passed_none _ _ _ (λ b c d. omega arith))

pub loop-b-preserved : goal.loop-b-preserved
loop-b-preserved c =
    let args = c.args in
    let r = c.join-all.ensures in
    (omega arith, along-more args.masks.now args.nodes.now args.total c.loop-b.b _ (omega arith) c.loop-b.invariant.1 r)
