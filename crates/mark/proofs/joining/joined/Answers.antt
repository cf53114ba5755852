-- `mark::joining::joined` meets its contract: between the passes no barrier is told joined that is not.
-- Assumes nothing.
use mathlib.Core.Path.{◌≡◌}
use native.Mathlib.Omega.{arith}
use lib.Pow.{pow-lt}
use Rattle.mark.proofs.JoiningLaws.{joins-none, joins-more, joined-full, joined-all}
use Rattle.mark.proofs.joining.joined.Goals as goal

pub loop-before-init : goal.loop-before-init
loop-before-init c = rw c.bit-all.ensures (joins-none _ _)

pub returns-then-all-before : goal.returns-then-all-before
returns-then-all-before c = λ bound.
    let still : c.loop-before.all ≡ c.pass-all.result = omega arith in
    joined-all _ (pow-lt c.requires.total_bound.1) bound (rw still at c.loop-before.invariant) (rw still at c.pass-all.ensures)

pub loop-before-preserved : goal.loop-before-preserved
loop-before-preserved c = joins-more _ c.loop-before.invariant c.pass-all.ensures

pub returns : goal.returns
returns c = λ bound.
    joined-full _ (pow-lt c.requires.total_bound.1) bound c.loop-before.invariant (omega (arith, c.ones.ensures.0))
