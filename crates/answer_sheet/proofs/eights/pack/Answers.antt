-- `answer_sheet::eights::pack` meets its contract. The loop's invariant: the covers passed, from the highest on, are the bytes of the word.
-- Assumes nothing.
use mathlib.Core.Path.{◌≡◌, refl, ◌∙◌}
use Prim.Native.Nat.{◌+◌, ◌-◌, ◌≤◌}
use native.Mathlib.Omega.{arith}
use lib.Dec.{eqb}
use lib.ListN.{get_or}
use Rattle.answer_sheet.specs.Fan.{fan, fan-same}
use Rattle.answer_sheet.proofs.Spreads.{cover-most, pack-more}
use Rattle.answer_sheet.proofs.eights.pack.Invariants.{cover_at}
use Rattle.answer_sheet.proofs.eights.pack.Goals as goal

pub loop-i-init : goal.loop-i-init
unfolding fan
loop-i-init c = (omega arith, refl)

pub overflow_mul-word : goal.overflow_mul-word
overflow_mul-word c =
    let small : c.loop-i.word ≤ 72057594037927935 =
    let e = c.args in
    rw c.loop-i.invariant.1 (cover-most (λ k. eqb (get_or e.closed.now (e.at + (c.loop-i.i + k)) 0) 0) (8 - c.loop-i.i) (omega arith)) in
    omega (arith, small)

pub overflow_add-at : goal.overflow_add-at
overflow_add-at c = omega arith

pub bounds-closed-at : goal.bounds-closed-at
bounds-closed-at c = omega arith

pub cover-requires : goal.cover-requires
cover-requires c = tt

pub overflow_add-word : goal.overflow_add-word
overflow_add-word c =
    let small : c.loop-i.word ≤ 72057594037927935 =
    let e = c.args in
    rw c.loop-i.invariant.1 (cover-most (λ k. eqb (get_or e.closed.now (e.at + (c.loop-i.i + k)) 0) 0) (8 - c.loop-i.i) (omega arith)) in
    omega (arith, small, c.cover.ensures.1)

pub loop-i-preserved : goal.loop-i-preserved
loop-i-preserved c =
    let e = c.args in
    (omega arith, pack-more (cover_at e.closed.now e.at) c.loop-i.i c.loop-i.word c.cover.result (omega arith) c.loop-i.invariant.0 c.loop-i.invariant.1 c.cover.ensures.0)

pub returns : goal.returns
returns c =
    let e = c.args in
    let none : c.loop-i.i ≡ 0 = omega arith in
    (rw none at c.loop-i.invariant.1) ∙ fan-same _ (cover_at e.closed.now e.at) 8 (λ k h. let z : 0 + k ≡ k = omega arith in rw z)
