-- `mark::joining::any_stuck` meets its contract: what leads to the last barrier is led to from there, with the edges turned round.
-- Assumes nothing.
use native.Mathlib.Omega.{arith}
use Rattle.mark.proofs.JoiningLaws.{stuck-told}
use Rattle.mark.proofs.joining.any_stuck.Goals as goal

pub returns : goal.returns
returns c = λ R W B w.
    let some = c.requires.total_bound.1 in
    rw c.ones.ensures.0 (stuck-told W _ B _ (omega arith) c.joined.result w c.joined.ensures)
