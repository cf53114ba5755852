-- `answer_steps::tests::is_first` meets its contract. The loop's invariant: the threads passed have left it no oftener.
-- Assumes nothing.
use mathlib.Core.Path.{◌≡◌, refl, sym}
use mathlib.Core.Bool.{true}
use Prim.Native.Nat.{◌-◌}
use native.Mathlib.Omega.{arith}
use lib.Dec.{leb}
use borrow.Author.Tests.{le-leb, lt-leb}
use Rattle.lists.specs.Range.{every}
use Rattle.theory_traces.specs.Tests.{is_first}
use Rattle.answer_steps.proofs.Laws.{every_more, every-fails}
use Rattle.answer_steps.proofs.tests.is_first.Goals as goal

pub loop-k-init : goal.loop-k-init
unfolding every
loop-k-init c = (omega arith, c.count_of-own.ensures, λ σ S. refl)

pub returns-then-own-count_of : goal.returns-then-own-count_of
unfolding is_first
returns-then-own-count_of c =
    λ σ S.
    let own = S.count c.args.t c.args.c c.requires.1 c.requires.2 in
    let other = S.count c.loop-k.k c.args.c (omega arith) c.requires.2 in
    sym (every-fails c.args.m (λ j. leb (σ.encounters j c.args.c) (σ.encounters c.args.t c.args.c)) c.loop-k.k (omega arith)
    (lt-leb (σ.encounters c.loop-k.k c.args.c) (σ.encounters c.args.t c.args.c) (omega (arith, c.if-own-count_of.true, c.loop-k.invariant.1, c.count_of.ensures, own, other))))

pub loop-k-preserved : goal.loop-k-preserved
loop-k-preserved c = (
  omega arith,
  c.loop-k.invariant.1,
  λ σ S.
      let own = S.count c.args.t c.args.c c.requires.1 c.requires.2 in
      let other = S.count c.loop-k.k c.args.c (omega arith) c.requires.2 in
      every_more c.loop-k.k (λ j. leb (σ.encounters j c.args.c) (σ.encounters c.args.t c.args.c)) (c.loop-k.invariant.2 σ S) (le-leb (σ.encounters c.loop-k.k c.args.c) (σ.encounters c.args.t c.args.c) (omega (arith, c.if-own-count_of.false, c.loop-k.invariant.1, c.count_of.ensures, own, other))),
)

pub returns : goal.returns
unfolding is_first
returns c =
    λ σ S.
    let q : c.loop-k.k ≡ c.args.m = omega arith in
    sym (rw q at (c.loop-k.invariant.2 σ S))
