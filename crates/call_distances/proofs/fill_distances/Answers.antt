-- `call_distances::fill_distances` meets its contract.
-- Assumes nothing.
use mathlib.Core.Path.{◌≡◌}
use native.Mathlib.Omega.{arith}
use Rattle.call_distances.proofs.Filling.{filled_none, filled_more, filled-all}
use Rattle.call_distances.proofs.fill_distances.Goals as goal

pub loop-x-init : goal.loop-x-init
loop-x-init c = filled_none _ _

pub loop-x-preserved : goal.loop-x-preserved
loop-x-preserved c =
    filled_more _ (omega (arith, c.requires, c.loop-x.invariant.long)) c.distance_byte.ensures c.loop-x.invariant

pub returns : goal.returns
returns c =
    let q : c.loop-x.x ≡ c.args.n = omega arith in
    filled-all c.args.closed.now c.args.levels.now c.requires.1 (rw q at c.loop-x.invariant)
