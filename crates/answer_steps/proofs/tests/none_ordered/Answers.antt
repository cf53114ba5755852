-- `answer_steps::tests::none_ordered` meets its contract. The loop's invariant: none of the threads passed is beside t.
-- Assumes nothing.
use mathlib.Core.Path.{◌≡◌, refl, sym, ◌∙◌}
use mathlib.Core.Bool.{true}
use Prim.Native.Nat.{◌-◌}
use native.Mathlib.Omega.{arith}
use Rattle.lists.specs.Range.{every}
use Rattle.theory_traces.specs.Tests.{none_ordered}
use Rattle.answer_steps.proofs.Laws.{every_more, every-fails}
use Rattle.answer_steps.proofs.tests.none_ordered.Goals as goal

pub loop-k-init : goal.loop-k-init
unfolding every
loop-k-init c = (omega arith, λ R σ T S. refl)

pub returns-then-not-not_beside : goal.returns-then-not-not_beside
unfolding none_ordered
returns-then-not-not_beside c = λ R σ T S. sym (every-fails c.args.m _ c.loop-k.k (omega (arith)) (sym (c.not_beside.ensures R σ T S) ∙ c.if-not-not_beside.true))

pub loop-k-preserved : goal.loop-k-preserved
loop-k-preserved c =
    (omega arith, λ R σ T S. every_more c.loop-k.k _ (c.loop-k.invariant.1 R σ T S) (sym (c.not_beside.ensures R σ T S) ∙ c.if-not-not_beside.false))

pub returns : goal.returns
unfolding none_ordered
returns c =
    λ R σ T S.
    let q : c.loop-k.k ≡ c.args.m = omega (arith) in
    sym (rw q at (c.loop-k.invariant.1 R σ T S))
