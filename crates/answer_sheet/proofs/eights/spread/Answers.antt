-- `answer_sheet::eights::spread` meets its contract.
-- Assumes nothing.
use native.Mathlib.Omega.{arith}
use Rattle.answer_sheet.proofs.Spreads.{spread-is, bits_most}
use Rattle.answer_sheet.proofs.eights.spread.Goals as goal

pub overflow_mul-byte : goal.overflow_mul-byte
overflow_mul-byte c = omega arith

pub overflow_shr-byte : goal.overflow_shr-byte
overflow_shr-byte c = omega arith

pub offset_bounds-table-byte : goal.offset_bounds-table-byte
offset_bounds-table-byte c = omega arith

pub bounds-table-byte : goal.bounds-table-byte
bounds-table-byte c = omega arith

pub returns : goal.returns
returns c =
    let q = spread-is c.args.table.now c.args.set c.args.i c.requires.1 in
    (q, rw q (bits_most _ (λ k. omega arith)))
