-- `call_replay::pairs_met::mark_state` meets its contract. The loop's invariant: the threads passed have met.
-- Assumes nothing.
use mathlib.Core.Path.{◌≡◌, ap}
use mathlib.Core.Bool.{Bool, ◌||◌}
use Prim.Native.Nat.{◌-◌}
use native.Mathlib.Omega.{arith}
use Rattle.call_replay.specs.PairsMet.{meets}
use Rattle.call_replay.proofs.Sheets.{sheet-same, kept_same, kept_then, met-none, met-more}
use Rattle.call_replay.proofs.Meetings.{all_meet}
use Rattle.call_replay.proofs.pairs_met.mark_state.Goals as goal

pub loop-t-init : goal.loop-t-init
loop-t-init c = (omega arith, ((λ σ met S H. sheet-same (λ a b. met-none (met a b) (λ j. meets j σ j a b)) H), kept_same _ _))

pub mark_before-requires : goal.mark_before-requires
mark_before-requires c =
    let pre = c.requires in
    (omega (arith, pre.0), omega (arith, pre.1, c.loop-t.invariant.1.1.long))

pub loop-t-preserved : goal.loop-t-preserved
loop-t-preserved c =
    let marked = c.mark_before.ensures in (
      omega arith,
      (
        (λ σ met S H. sheet-same (λ a b. met-more (met a b) c.loop-t.t (λ j. meets j σ j a b)) (marked.0 σ _ S (c.loop-t.invariant.1.0 σ met S H))),
        kept_then c.loop-t.invariant.1.1 marked.1,
      ),
    )

pub shape_of-out : goal.shape_of-out
shape_of-out c = c.loop-t.invariant.1.1.long

pub returns : goal.returns
returns c =
    let m = c.args.m in
    let q : c.loop-t.t ≡ c.args.m = omega arith in
    let marked = rw q at c.loop-t.invariant.1 in
    ((λ σ met S H. sheet-same (λ a b. ap (λ (u : Bool). met a b || u) (all_meet m σ a b)) (marked.0 σ met S H)), marked.1)
