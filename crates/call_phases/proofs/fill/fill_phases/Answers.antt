-- `call_phases::fill::fill_phases` meets its contract.
-- Assumes nothing.
use mathlib.Core.Path.{◌≡◌}
use native.Mathlib.Omega.{arith}
use Rattle.call_phases.proofs.Filling.{filled_none, both-filled, filled-all}
use Rattle.call_phases.proofs.fill.fill_phases.Goals as goal

pub loop-x-init : goal.loop-x-init
loop-x-init c = filled_none _ _

pub put_mask-requires : goal.put_mask-requires
put_mask-requires c = omega (arith, c.requires, c.loop-x.invariant.long)

pub put_mask-requires-in-loop-x : goal.put_mask-requires-in-loop-x
put_mask-requires-in-loop-x c =
    omega (arith, c.requires, c.loop-x.invariant.long, c.put_mask.ensures.long)

pub loop-x-preserved : goal.loop-x-preserved
loop-x-preserved c =
    both-filled c.args.starts.now c.args.ends.now c.loop-x.x c.loop-x.invariant c.put_mask.ensures c.put_mask-in-loop-x.ensures

pub returns : goal.returns
returns c =
    let q : c.loop-x.x ≡ c.args.n = omega arith in
    filled-all c.args.starts.now c.args.ends.now c.requires.0 c.requires.1 (rw q at c.loop-x.invariant)
