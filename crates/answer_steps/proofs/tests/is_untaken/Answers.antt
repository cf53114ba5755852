-- `answer_steps::tests::is_untaken` meets its contract. The loop's invariant: none of the threads passed has taken it or is past.
-- Assumes nothing.
use mathlib.Core.Path.{◌≡◌, refl, sym, ◌∙◌}
use mathlib.Core.Bool.{true}
use Prim.Native.Nat.{◌-◌}
use native.Mathlib.Omega.{arith}
use Rattle.lists.specs.Range.{every}
use Rattle.theory_traces.specs.Tests.{is_untaken}
use Rattle.answer_steps.proofs.Laws.{every_more, every-fails}
use Rattle.answer_steps.proofs.tests.is_untaken.Goals as goal

pub loop-t-init : goal.loop-t-init
unfolding every
loop-t-init c = (omega arith, λ σ S. refl)

pub returns-then-not-untaken_by : goal.returns-then-not-untaken_by
unfolding is_untaken
returns-then-not-untaken_by c = λ σ S. sym (every-fails c.args.m _ c.loop-t.t (omega (arith)) (sym (c.untaken_by.ensures σ S) ∙ c.if-not-untaken_by.true))

pub loop-t-preserved : goal.loop-t-preserved
loop-t-preserved c =
    (omega arith, λ σ S. every_more c.loop-t.t _ (c.loop-t.invariant.1 σ S) (sym (c.untaken_by.ensures σ S) ∙ c.if-not-untaken_by.false))

pub returns : goal.returns
unfolding is_untaken
returns c =
    λ σ S.
    let q : c.loop-t.t ≡ c.args.m = omega (arith) in
    sym (rw q at (c.loop-t.invariant.1 σ S))
