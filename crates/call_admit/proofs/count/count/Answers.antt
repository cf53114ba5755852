-- `call_admit::count::count` meets its contract: after some turns the pairs with the first so many starts are counted.
-- Assumes nothing.
use mathlib.Core.Path.{◌≡◌, refl}
use Prim.Native.Nat.{◌<◌}
use native.Mathlib.Omega.{arith}
use lib.ListN.{length, length-take}
use Rattle.std.proofs.lemmas.List.{get_or-take}
use Rattle.lists.specs.Range.{count_pairs}
use Rattle.theory_paths.specs.Phases.{barriers, phase, phase_count}
use Rattle.call_admit.proofs.Counting.{pairs-more}
use Rattle.call_admit.proofs.count.count.Goals as goal

pub loop-union-init : goal.loop-union-init
unfolding count_pairs
loop-union-init c = (omega arith, λ R q t S E. refl)

pub loop-union-preserved : goal.loop-union-preserved
unfolding phase
loop-union-preserved c =
    let b = c.loop-union.union-index in
    let below : b < c.args.total = omega (arith, length-take c.args.total c.unite.new.unions) in (
      omega (arith, c.ones-sum.ensures.1),
      λ R q t S E. rw (c.ones-sum.ensures.0, get_or-take c.args.total c.unite.new.unions b 0 below)
          (pairs-more R _ _ _ (c.loop-union.invariant.1 R q t S E) (c.unite.ensures R q S E b (omega arith) (omega arith))),
    )

pub returns : goal.returns
unfolding phase_count
returns c = λ R q t S E.
    let e : c.loop-union.union-index ≡ length (barriers R) = omega (arith, length-take c.args.total c.unite.new.unions) in
    rw e at (c.loop-union.invariant.1 R q t S E)
