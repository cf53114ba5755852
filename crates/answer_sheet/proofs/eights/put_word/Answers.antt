-- `answer_sheet::eights::put_word` meets its contract. The loop's invariant: the entries passed are there, and those below the word are kept.
-- Assumes nothing.
use mathlib.Core.Path.{refl}
use native.Mathlib.Omega.{arith}
use Rattle.answer_sheet.specs.Eights.{digit}
use Rattle.answer_sheet.proofs.Spreads.{none-plain, digit-most, eights-more}
use Rattle.answer_sheet.proofs.eights.put_word.Goals as goal

pub loop-i-init : goal.loop-i-init
loop-i-init c = (omega arith, c.requires.2, λ closed F j l. absurd (omega arith), λ x l. refl)

pub eight-requires : goal.eight-requires
eight-requires c = (c.loop-i-test.true, c.requires.1, none-plain _)

pub overflow_mul-w : goal.overflow_mul-w
overflow_mul-w c = omega arith

pub overflow_add-w : goal.overflow_add-w
overflow_add-w c = omega arith

pub offset_bounds-fence-w : goal.offset_bounds-fence-w
offset_bounds-fence-w c = omega arith

pub bounds-fence-w : goal.bounds-fence-w
bounds-fence-w c = omega arith

pub overflow_mul-w-in-loop-i : goal.overflow_mul-w-in-loop-i
overflow_mul-w-in-loop-i c = omega arith

pub overflow_mul-i : goal.overflow_mul-i
overflow_mul-i c = omega arith

pub overflow_add-w-in-loop-i : goal.overflow_add-w-in-loop-i
overflow_add-w-in-loop-i c = omega arith

pub put-requires : goal.put-requires
put-requires c = (c.loop-i.invariant.1, omega arith)

pub loop-i-preserved : goal.loop-i-preserved
loop-i-preserved c =
    let e = c.args in
    eights-more (digit e.p) (digit-most e.p) e.w c.requires.0 e.fence.now e.row.now c.loop-i.row c.put.new.row c.loop-i.i c.eight.result (omega arith) c.loop-i.invariant c.eight.ensures
    c.put.ensures.0 c.put.ensures.1 c.put.ensures.2

pub returns : goal.returns
returns c = (c.loop-i.invariant.1, λ closed F j h. c.loop-i.invariant.2 closed F j (omega arith), c.loop-i.invariant.3)
