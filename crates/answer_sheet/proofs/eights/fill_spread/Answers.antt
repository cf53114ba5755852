-- `answer_sheet::eights::fill_spread` meets its contract. The loop's invariant: the entries passed are there.
-- Assumes nothing.
use mathlib.Core.Path.{◌≡◌, refl, ◌∙◌}
use Prim.Native.Nat.{ℕ, ◌+◌, ◌*◌, ◌/◌, ◌%◌, ◌≤◌, ◌<◌}
use native.Mathlib.Omega.{arith}
use lib.ListN.{get_or, replicate, length-set}
use Rattle.lists.specs.Store.{stored}
use Rattle.answer_sheet.specs.Fan.{fan}
use Rattle.answer_sheet.proofs.Spreads.{bits_of, halved, low-most}
use Rattle.answer_sheet.proofs.eights.fill_spread.Goals as goal

first : (j : ℕ) → j < 1 → get_or (replicate 256 0) j 0 ≡ fan (bits_of j) 8
unfolding fan
first j l = let q : j ≡ 0 = omega arith in rw q refl

pub loop-b-init : goal.loop-b-init
loop-b-init c = (omega arith, omega arith, refl, λ j l. first j l)

pub offset_bounds-table-b : goal.offset_bounds-table-b
offset_bounds-table-b c = omega arith

pub bounds-table-b : goal.bounds-table-b
bounds-table-b c = omega arith

pub overflow_mul-table : goal.overflow_mul-table
overflow_mul-table c =
    let least : get_or c.loop-b.table (c.loop-b.b / 2) 0 ≤ 282578800148737 =
    low-most (c.loop-b.b / 2) _ (omega arith) (c.loop-b.invariant.3 (c.loop-b.b / 2) (omega arith)) in
    omega (arith, least)

pub overflow_add-table : goal.overflow_add-table
overflow_add-table c =
    let least : get_or c.loop-b.table (c.loop-b.b / 2) 0 ≤ 282578800148737 =
    low-most (c.loop-b.b / 2) _ (omega arith) (c.loop-b.invariant.3 (c.loop-b.b / 2) (omega arith)) in
    omega (arith, least)

pub offset_bounds-table-b-in-loop-b : goal.offset_bounds-table-b-in-loop-b
offset_bounds-table-b-in-loop-b c = omega arith

pub bounds-table-b-in-loop-b : goal.bounds-table-b-in-loop-b
bounds-table-b-in-loop-b c = omega arith

pub loop-b-preserved : goal.loop-b-preserved
loop-b-preserved c =
    let b = c.loop-b.b in
    let v = 256 * get_or c.loop-b.table (b / 2) 0 + b % 2 in (
      omega arith,
      omega arith,
      length-set c.loop-b.table b v ∙ c.loop-b.invariant.2,
      stored (λ j v. v ≡ fan (bits_of j) 8) c.loop-b.table b v (omega (arith, c.loop-b.invariant.2)) (halved b _ (omega arith) (c.loop-b.invariant.3 (b / 2) (omega arith))) c.loop-b.invariant.3,
    )

pub returns : goal.returns
returns c = record { at = λ j h. c.loop-b.invariant.3 j (omega arith) }
