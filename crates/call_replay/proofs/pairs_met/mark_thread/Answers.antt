-- `call_replay::pairs_met::mark_thread` meets its contract. The loop's invariant: thread t has met those passed, round the team.
-- Assumes nothing.
use mathlib.Core.Path.{◌≡◌, sym, ◌∙◌, ap}
use mathlib.Core.Bool.{Bool, ◌||◌}
use Prim.Native.Nat.{◌-◌}
use native.Mathlib.Omega.{arith}
use Rattle.lists.specs.Truth.{or-false}
use Rattle.call_replay.specs.PairsMet.{meet, next_thread}
use Rattle.call_replay.proofs.Sheets.{sheet-same, kept_same, kept_then, met-more}
use Rattle.call_replay.proofs.Meetings.{next-below, next-other, round-first, round-all}
use Rattle.call_replay.proofs.pairs_met.mark_thread.Goals as goal

pub loop-k-init : goal.loop-k-init
loop-k-init c = (
  omega arith,
  omega (arith, c.requires.1),
  (
    (λ σ met S H. sheet-same (λ x y. sym (ap (λ (u : Bool). met x y || u) (round-first c.args.m c.args.t c.requires.1 σ x y) ∙ or-false (met x y))) H),
    kept_same _ _,
  ),
)

pub next_thread-requires : goal.next_thread-requires
next_thread-requires c = (c.requires.0, c.requires.1, omega arith)

pub mark_pair-requires : goal.mark_pair-requires
mark_pair-requires c =
    let l = c.loop-k in
    let below = next-below c.args.m c.args.t c.requires.1 l.k (omega arith) in
    let at = c.next_thread.ensures in (
      omega (arith, c.requires.0, c.requires.1),
      omega (arith, c.requires.0, at, below),
      (λ e. next-other c.args.m c.args.t c.requires.1 l.k (omega (arith, l.invariant.0)) (omega arith) (e ∙ at)),
      omega (arith, c.requires.2, l.invariant.2.1.long),
    )

pub loop-k-preserved : goal.loop-k-preserved
loop-k-preserved c =
    let marked = rw c.next_thread.ensures at c.mark_pair.ensures in (
      omega (arith, c.loop-k.invariant.0),
      omega arith,
      (
        (λ σ met S H. sheet-same (λ x y. met-more (met x y) c.loop-k.k (λ i. meet σ c.args.t (next_thread c.args.m c.args.t i) x y)) (marked.0 σ _ S (c.loop-k.invariant.2.0 σ met S H))),
        kept_then c.loop-k.invariant.2.1 marked.1,
      ),
    )

pub shape_of-out : goal.shape_of-out
shape_of-out c = c.loop-k.invariant.2.1.long

pub returns : goal.returns
returns c =
    let q : c.loop-k.k ≡ c.args.m = omega arith in
    let marked = rw q at c.loop-k.invariant.2 in
    ((λ σ met S H. sheet-same (λ x y. ap (λ (u : Bool). met x y || u) (round-all c.args.m c.args.t c.requires.1 σ x y)) (marked.0 σ met S H)), marked.1)
