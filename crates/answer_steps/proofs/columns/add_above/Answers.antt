-- `answer_steps::columns::add_above` meets its contract.
-- Assumes nothing.
use mathlib.Core.Path.{sym, subst}
use native.Mathlib.Omega.{arith}
use Rattle.chart.specs.Scope.{parent_of}
use Rattle.chart.proofs.Records.{constructs-length}
use Rattle.chart.proofs.Tables.{parents}
use Rattle.chart.proofs.Tree.{Below}
use Rattle.mark_tables.proofs.Accepted.{tables}
use Rattle.answer_constructs.proofs.Constructs.{index_below}
use Rattle.answer_steps.proofs.Around.{above_more}
use Rattle.answer_steps.proofs.columns.add_above.Goals as goal

pub mask_at-requires : goal.mask_at-requires
unfolding parent_of
mask_at-requires c =
    let l = constructs-length _ c.args.chart c.requires.0.laid in
    index_below (omega (arith, c.requires.1, c.requires.0.laid.constructs-most))
    (subst (Below c.args.c) (sym c.read-parent.ensures.1) (parents _ (tables _ c.args.chart c.requires.0) c.args.c (omega (arith, c.requires.1, l))))

pub returns : goal.returns
unfolding parent_of
returns c =
    let l = constructs-length _ c.args.chart c.requires.0.laid in
    rw (c.bit.ensures, c.mask_at.ensures, c.read-parent.ensures.1)
    (above_more (tables _ c.args.chart c.requires.0) (omega (arith, l, c.requires.0.laid.constructs-most)) (omega (arith, c.requires.1, l)) c.requires.2)
