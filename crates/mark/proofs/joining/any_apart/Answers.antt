-- `mark::joining::any_apart` meets its contract, whichever the direction of the masks.
-- Assumes nothing.
use Rattle.mark.proofs.JoiningLaws.{apart-told}
use Rattle.mark.proofs.joining.any_apart.Goals as goal

pub returns : goal.returns
returns c = λ d R W B w.
    rw c.ones.ensures.0 (apart-told W _ B 0 c.requires.total_bound.1 c.joined.result d w c.joined.ensures)
