-- `answer_nodes::sharing` meets its contract.
-- Assumes nothing.
use native.Mathlib.Omega.{arith}
use Rattle.answer_nodes.specs.Shared.{shared}
use Rattle.answer_nodes.proofs.sharing.Goals as goal

pub returns : goal.returns
returns c = λ closed masks B. record {
  low = shared (B.sets 0 (omega arith)) c.join.ensures.joined c.ranges.mask.fits;
  middle = shared (B.sets 1 (omega arith)) c.join.ensures.joined_2 c.ranges.mask.fits;
  high = shared (B.sets 2 (omega arith)) c.join.ensures.joined_3 c.ranges.mask.fits;
}
