-- `answer_races::lines::line_of` meets its contract.
-- Assumes nothing.
use Rattle.answer_races.proofs.LineBits.{line-by}
use Rattle.answer_races.proofs.lines.line_of.Goals as goal

pub returns : goal.returns
returns c =
    let A = c.join-shared.ensures.joined in
    let B = c.join-shared.ensures.joined_2 in
    let C = c.join-shared.ensures.joined_3 in
    λ closed marks names own M N. line-by closed marks names own c.args.around c.args.met c.join-shared.result _ _ _ c.ranges.around.fits M N A B C
    c.without.ensures c.without-2.ensures c.without-3.ensures
