-- `answer_constructs::chains::add_construct` meets its contract.
-- Assumes nothing.
use mathlib.Core.Path.{sym, ◌∙◌, subst}
use Prim.Native.Nat.{◌<◌}
use native.Mathlib.Omega.{arith}
use lib.ListN.{length}
use Rattle.chart.specs.Format.{decode}
use Rattle.chart.specs.Scope.{parent_of}
use Rattle.chart.proofs.Records.{constructs-length}
use Rattle.chart.proofs.Tree.{Below}
use Rattle.answer_constructs.proofs.Constructs.{index_below, parent-lower, ordered-parent, section-parent, chains-more}
use Rattle.answer_constructs.proofs.chains.add_construct.Goals as goal

pub gives-own-requires : goal.gives-own-requires
unfolding parent_of
gives-own-requires c =
    let counted : c.args.c < length (decode c.args.s.now).constructs =
    omega (arith, constructs-length _ c.args.chart c.requires.0.laid, c.requires.1) in (
      omega (arith, c.requires.0.laid.constructs-most, c.requires.1),
      λ k. rw c.read-construct.ensures.1 (ordered-parent _ c.args.chart c.requires.0 c.args.c counted (sym c.read-construct.ensures.0 ∙ k)),
      λ k. rw c.read-construct.ensures.1 (section-parent _ c.args.chart c.requires.0 c.args.c counted (sym c.read-construct.ensures.0 ∙ k)),
    )

pub mask_at-requires : goal.mask_at-requires
unfolding parent_of
mask_at-requires c =
    let counted : c.args.c < length (decode c.args.s.now).constructs =
    omega (arith, constructs-length _ c.args.chart c.requires.0.laid, c.requires.1) in
    index_below (omega (arith, c.requires.0.laid.constructs-most, c.requires.1))
    (subst (Below c.args.c) (sym c.read-construct.ensures.1) (parent-lower _ c.args.chart c.requires.0 c.args.c counted))

pub returns : goal.returns
unfolding parent_of
returns c =
    let counted : c.args.c < length (decode c.args.s.now).constructs =
    omega (arith, constructs-length _ c.args.chart c.requires.0.laid, c.requires.1) in
    rw (c.mask_at.ensures, c.gives-own.ensures, c.read-construct.ensures.0, c.read-construct.ensures.1)
    (chains-more _ c.args.chart c.requires.0 c.args.c counted _ c.requires.3 c.args.like c.requires.4 c.requires.2 c.requires.5)
