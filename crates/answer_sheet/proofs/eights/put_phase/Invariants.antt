-- The invariants and measures of `answer_sheet::eights::put_phase`.
use Prim.Native.Nat.{ℕ, ◌-◌, ◌/◌, ◌%◌, ◌^◌}
use Rattle.answer_sheet.proofs.Spreads.{Filled}
use Rattle.answer_sheet.proofs.eights.put_phase.Given as goal

abbrev pub number : ℕ → ℕ → ℕ
number both j = 1 - both / 2 ^ j % 2

abbrev pub invariant-loop-i : goal.invariant-loop-i
invariant-loop-i l = Filled (number l.both) l.w l.fence l.initial.row l.row l.i
