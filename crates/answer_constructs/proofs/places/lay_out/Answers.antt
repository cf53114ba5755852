-- `answer_constructs::places::lay_out` meets its contract. The loop's invariant: the nodes passed have their masks.
-- Assumes nothing.
use native.Mathlib.Omega.{arith}
use Rattle.answer_constructs.proofs.Nodes.{kind-known}
use Rattle.answer_constructs.proofs.Laying.{laid_more}
use Rattle.answer_constructs.proofs.places.lay_out.Goals as goal

pub find-requires : goal.find-requires
find-requires c =
    omega (arith, kind-known _ c.args.chart c.requires.0 c.loop-x.x, c.read.ensures.0)

pub loop-x-preserved : goal.loop-x-preserved
loop-x-preserved c = (
  omega arith,
  rw (c.find.ensures, c.read.ensures.0, c.read.ensures.1)
      (laid_more _ c.args.chart c.requires.0 c.fill_places.ensures c.loop-x.x c.loop-x.invariant.1 (omega (arith, c.requires.0.laid.nodes-most))),
)
