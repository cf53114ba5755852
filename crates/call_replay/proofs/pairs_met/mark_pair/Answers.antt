-- `call_replay::pairs_met::mark_pair` meets its contract.
-- Assumes nothing.
use mathlib.Core.Path.{◌∙◌}
use native.Mathlib.Omega.{arith}
use Rattle.call_replay.proofs.Sheets.{sheet-pair, kept_then}
use Rattle.call_replay.proofs.pairs_met.mark_pair.Goals as goal

pub mark-requires-2 : goal.mark-requires-2
mark-requires-2 c = omega (arith, c.requires.3, c.mark.ensures.kept.long)

pub shape_of-out : goal.shape_of-out
shape_of-out c = c.mark-2.ensures.kept.long ∙ c.mark.ensures.kept.long

pub returns : goal.returns
returns c =
    let one = c.mark.ensures in
    let two = c.mark-2.ensures in (
      (λ σ met S H. sheet-pair met σ c.args.t c.args.k c.requires.2 (c.node_of-a.ensures ∙ S.node c.args.t c.requires.0)
          (c.node_of-b.ensures ∙ S.node c.args.k c.requires.1) (two.by_index _ (one.by_index met H))),
      kept_then one.kept two.kept,
    )
