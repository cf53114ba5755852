-- `answer_sheet::eights::eight` meets its contract.
-- Assumes nothing.
use native.Mathlib.Omega.{arith}
use Rattle.answer_sheet.proofs.Spreads.{plain-eight, full-eight}
use Rattle.answer_sheet.proofs.eights.eight.Goals as goal

pub overflow_sub-ones : goal.overflow_sub-ones
overflow_sub-ones c = omega (arith, c.spread-ones.ensures.1)

pub returns-then-rest-eq0 : goal.returns-then-rest-eq0
returns-then-rest-eq0 c = plain-eight c.args.p c.args.i _ (c.requires.2 c.if-rest-eq0.true) c.spread-ones.ensures.0

pub overflow_add-result : goal.overflow_add-result
overflow_add-result c = omega (arith, c.spread.ensures.1)

pub overflow_mul-result : goal.overflow_mul-result
overflow_mul-result c = omega (arith, c.spread-2.ensures.1)

pub overflow_add-result-2 : goal.overflow_add-result-2
overflow_add-result-2 c = omega (arith, c.spread.ensures.1, c.spread-2.ensures.1)

pub overflow_mul-result-2 : goal.overflow_mul-result-2
overflow_mul-result-2 c = omega (arith, c.spread-3.ensures.1)

pub overflow_add-result-3 : goal.overflow_add-result-3
overflow_add-result-3 c = omega (arith, c.spread.ensures.1, c.spread-2.ensures.1, c.spread-3.ensures.1)

pub returns : goal.returns
returns c =
    let e = c.args in
    full-eight e.p e.i _ _ _ _ c.spread-ones.ensures.0 c.spread.ensures.0 c.spread-2.ensures.0 c.spread-3.ensures.0
