-- `call_replay::feed::all_at` meets its contract. The loop's invariant: the threads passed are there.
-- Assumes nothing.
use mathlib.Core.Path.{◌≡◌, refl, sym, ◌∙◌}
use mathlib.Core.Bool.{true}
use Prim.Native.Nat.{◌-◌}
use native.Mathlib.Omega.{arith}
use lib.Dec.{eqb}
use borrow.Author.Tests.{eq-eqb, ne_eqb}
use Rattle.lists.specs.Range.{every}
use Rattle.answer_steps.proofs.Laws.{every_more, every-fails}
use Rattle.call_replay.proofs.feed.all_at.Goals as goal

pub loop-k-init : goal.loop-k-init
unfolding every
loop-k-init c = (omega arith, λ σ S. refl)

pub returns-then-node_of-x : goal.returns-then-node_of-x
returns-then-node_of-x c =
    λ σ S.
    sym (every-fails c.args.m (λ j. eqb (σ.node j) c.args.x) c.loop-k.k (omega arith) (ne_eqb _ _ (λ z. c.if-node_of-x.true (c.node_of.ensures ∙ S.node c.loop-k.k (omega arith) ∙ z))))

pub loop-k-preserved : goal.loop-k-preserved
loop-k-preserved c =
    (omega arith, λ σ S. every_more c.loop-k.k (λ j. eqb (σ.node j) c.args.x) (c.loop-k.invariant.1 σ S) (eq-eqb _ _ (sym (c.node_of.ensures ∙ S.node c.loop-k.k (omega arith)) ∙ c.if-node_of-x.false)))

pub returns : goal.returns
returns c =
    λ σ S.
    let q : c.loop-k.k ≡ c.args.m = omega arith in
    sym (rw q at (c.loop-k.invariant.1 σ S))
