-- `mark_tables::load::frames` meets its contract.
-- Assumes nothing.
use mathlib.Core.Path.{◌∙◌}
use Rattle.chart.proofs.Facts.{fit-nodes, fit-frames}
use Rattle.mark_tables.proofs.Accepted.{tables}
use Rattle.mark_tables.proofs.load.frames.Goals as goal

pub bad_frames-requires : goal.bad_frames-requires
bad_frames-requires c = let A = c.requires in (A.laid, fit-nodes _ (tables _ _ A).nodes)

pub returns : goal.returns
returns c =
    let A = c.requires in
    let is = c.bad_frames.ensures.value in
    let framed = c.bad_frames.ensures.both_framed in
    framed (is ∙ fit-frames _ (tables _ _ A).frames)
