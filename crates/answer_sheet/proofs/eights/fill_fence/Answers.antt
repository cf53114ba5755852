-- `answer_sheet::eights::fill_fence` meets its contract. The loop's invariant: the covers passed are there.
-- Assumes nothing.
use mathlib.Core.Path.{◌≡◌, refl, ◌∙◌}
use mathlib.Core.Bool.{cond}
use Prim.Native.Nat.{◌+◌, ◌*◌}
use native.Mathlib.Omega.{arith}
use lib.Dec.{eqb}
use lib.ListN.{get_or, length-set}
use Rattle.lists.specs.Store.{stored}
use Rattle.answer_sheet.specs.Fan.{fan}
use Rattle.answer_sheet.proofs.eights.fill_fence.Goals as goal

pub loop-k-init : goal.loop-k-init
loop-k-init c = (omega arith, refl, λ j l. absurd (omega arith))

pub overflow_mul-k : goal.overflow_mul-k
overflow_mul-k c = omega arith

pub pack-requires : goal.pack-requires
pack-requires c = omega arith

pub offset_bounds-fence-k : goal.offset_bounds-fence-k
offset_bounds-fence-k c = omega arith

pub bounds-fence-k : goal.bounds-fence-k
bounds-fence-k c = omega arith

pub loop-k-preserved : goal.loop-k-preserved
loop-k-preserved c =
    let e = c.args in (
      omega arith,
      length-set c.loop-k.fence c.loop-k.k c.pack.result ∙ c.loop-k.invariant.1,
      stored (λ j v. v ≡ fan (λ i. cond (eqb (get_or e.closed.now (8 * j + i) 0) 0) 0 255) 8) c.loop-k.fence c.loop-k.k c.pack.result (omega (arith, c.loop-k.invariant.1)) c.pack.ensures c.loop-k.invariant.2,
    )

pub returns : goal.returns
returns c = record { at = λ k h. c.loop-k.invariant.2 k (omega arith) }
