-- The invariants and measures of `answer_sheet::eights::fill_spread`.
use mathlib.Core.Path.{◌≡◌}
use Prim.Native.Nat.{ℕ, ◌≤◌, ◌<◌}
use lib.ListN.{length, get_or}
use Rattle.answer_sheet.specs.Fan.{fan}
use Rattle.answer_sheet.proofs.Spreads.{bits_of}
use Rattle.answer_sheet.proofs.eights.fill_spread.Given as goal

abbrev pub invariant-loop-b : goal.invariant-loop-b
invariant-loop-b l =
    (l.b ≤ 256) × (0 < l.b) × (length l.table ≡ 256) × ((j : ℕ) → j < l.b → get_or l.table j 0 ≡ fan (bits_of j) 8)
