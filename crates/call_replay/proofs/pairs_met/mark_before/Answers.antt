-- `call_replay::pairs_met::mark_before` meets its contract. The loop's invariant: thread t has met those passed.
-- Assumes nothing.
use mathlib.Core.Path.{◌≡◌}
use Prim.Native.Nat.{◌-◌}
use native.Mathlib.Omega.{arith}
use Rattle.call_replay.specs.PairsMet.{meet}
use Rattle.call_replay.proofs.Sheets.{sheet-same, kept_same, kept_then, met-none, met-more}
use Rattle.call_replay.proofs.pairs_met.mark_before.Goals as goal

pub loop-k-init : goal.loop-k-init
loop-k-init c = (omega arith, ((λ σ met S H. sheet-same (λ a b. met-none (met a b) (λ j. meet σ c.args.t j a b)) H), kept_same _ _))

pub mark_pair-requires : goal.mark_pair-requires
mark_pair-requires c =
    let pre = c.requires in
    (pre.0, omega (arith, pre.0), (λ e. omega arith), omega (arith, pre.1, c.loop-k.invariant.1.1.long))

pub loop-k-preserved : goal.loop-k-preserved
loop-k-preserved c =
    let marked = c.mark_pair.ensures in (
      omega arith,
      (
        (λ σ met S H. sheet-same (λ a b. met-more (met a b) c.loop-k.k (λ j. meet σ c.args.t j a b)) (marked.0 σ _ S (c.loop-k.invariant.1.0 σ met S H))),
        kept_then c.loop-k.invariant.1.1 marked.1,
      ),
    )

pub shape_of-out : goal.shape_of-out
shape_of-out c = c.loop-k.invariant.1.1.long

pub returns : goal.returns
returns c =
    let q : c.loop-k.k ≡ c.args.t = omega arith in
    rw q at c.loop-k.invariant.1
