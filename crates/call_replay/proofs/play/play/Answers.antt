-- `call_replay::play::play` meets its contract. The loop's invariant: the entries passed are fed.
-- Assumes nothing.
use mathlib.Core.Path.{◌≡◌, refl, sym, ◌∙◌}
use Prim.Native.Nat.{suc, ◌-◌, ◌/◌}
use native.Mathlib.Omega.{arith}
use native.Mathlib.Numerals.{add-one}
use lib.ListN.{length}
use Rattle.theory_traces.specs.Replay.{begun, progress, outcome_of, play_of}
use Rattle.theory_traces.proofs.ReplayLaws.{goes_on, halts, stays}
use Rattle.call_replay.proofs.Sheets.{kept_same, kept_then}
use Rattle.call_replay.proofs.Choices.{after_none, after-some, fed-at}
use Rattle.call_replay.proofs.Counting.{few-feed, few-begun}
use Rattle.call_replay.proofs.play.play.Goals as goal

pub loop-i-init : goal.loop-i-init
unfolding progress
loop-i-init c = (omega arith, λ R T B. (begun R c.args.m, refl, (B, (few-begun R c.args.m, kept_same _ _))))

pub overflow_mul-i : goal.overflow_mul-i
overflow_mul-i c = omega arith

pub bounds-trace-i : goal.bounds-trace-i
bounds-trace-i c = omega arith

pub overflow_mul-i-in-loop-i : goal.overflow_mul-i-in-loop-i
overflow_mul-i-in-loop-i c = omega arith

pub bounds-trace-i-in-loop-i : goal.bounds-trace-i-in-loop-i
bounds-trace-i-in-loop-i c = omega arith

pub feed-requires : goal.feed-requires
feed-requires c =
    let (P, e, (L, (f, kept))) = c.loop-i.invariant.1 c.requires.0 c.requires.1 c.requires.2 in record { ready = (c.requires.0, P, c.requires.1, L, c.requires.3, (omega arith), omega (arith, c.requires.4, kept.long)); by_index = λ t k i j. omega (arith, L.state.count t k i j, f t k) }

pub shape_of-out-then-not-feed : goal.shape_of-out-then-not-feed
shape_of-out-then-not-feed c =
    let (P, e, (L, (f, k))) = c.loop-i.invariant.1 c.requires.0 c.requires.1 c.requires.2 in
    (c.feed.ensures c.requires.0 P c.requires.1 L).1.long ∙ k.long

pub returns-then-not-feed : goal.returns-then-not-feed
unfolding outcome_of play_of
returns-then-not-feed c =
    λ R T B.
    let (P, e, (L, (f, k))) = c.loop-i.invariant.1 R T B in
    let A = c.feed.ensures R P T L in
    let same = fed-at R c.args.m P c.from-t.ensures c.from-v.ensures in
    let (o, L') = after_none A.0 (c.if-not-feed.true) in
    let stop = stays R c.args.m c.args.trace.now P c.loop-i.i (suc c.loop-i.i) (length c.args.trace.now / 2) (omega (arith, c.loop-i-test.true)) (halts R c.args.m c.args.trace.now c.loop-i.i P e (same ∙ o)) in
    rw stop (refl, L', kept_then k A.1)

pub overflow_add-i : goal.overflow_add-i
overflow_add-i c = omega arith

pub loop-i-preserved : goal.loop-i-preserved
loop-i-preserved c = (
  omega arith,
  λ R T B.
      let (P, e, (L, (f, k))) = c.loop-i.invariant.1 R T B in
      let A = c.feed.ensures R P T L in
      let same = fed-at R c.args.m P c.from-t.ensures c.from-v.ensures in
      let (Q, o, L') = after-some A.0 (c.if-not-feed.false) in
      rw (add-one c.loop-i.i) (Q, goes_on R c.args.m c.args.trace.now c.loop-i.i P Q e (same ∙ o), (L', (few-feed R c.args.m c.loop-i.i P f _ _ Q o, kept_then k A.1))),
)

pub at_finish-requires : goal.at_finish-requires
at_finish-requires c =
    let (P, e, (L, (f, k))) = c.loop-i.invariant.1 c.requires.0 c.requires.1 c.requires.2 in
    (c.requires.0, c.requires.1, c.requires.3)

pub shape_of-out-then-at_finish : goal.shape_of-out-then-at_finish
shape_of-out-then-at_finish c =
    let (P, e, (L, (f, k))) = c.loop-i.invariant.1 c.requires.0 c.requires.1 c.requires.2 in
    k.long

pub returns-then-at_finish : goal.returns-then-at_finish
unfolding outcome_of play_of
returns-then-at_finish c =
    λ R T B.
    let (P, e, (L, (f, k))) = c.loop-i.invariant.1 R T B in
    let q : c.loop-i.i ≡ length c.args.trace.now / 2 = omega arith in
    rw (rw q at e, sym (c.at_finish.ensures R P.state T L.state) ∙ c.if-at_finish.true) (refl, L, k)

pub shape_of-out : goal.shape_of-out
shape_of-out c =
    let (P, e, (L, (f, k))) = c.loop-i.invariant.1 c.requires.0 c.requires.1 c.requires.2 in
    k.long

pub returns : goal.returns
unfolding outcome_of play_of
returns c =
    λ R T B.
    let (P, e, (L, (f, k))) = c.loop-i.invariant.1 R T B in
    let q : c.loop-i.i ≡ length c.args.trace.now / 2 = omega arith in
    rw (rw q at e, sym (c.at_finish.ensures R P.state T L.state) ∙ c.if-at_finish.false) (refl, L, k)
