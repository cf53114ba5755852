-- The invariants and measures of `mark_tables::closed::close_region`.
use mathlib.Core.Path.{◌≡◌}
use mathlib.Core.Bool.{cond}
use Prim.Native.Nat.{ℕ, ◌≤◌, ◌<◌}
use lib.ListN.{length, get_or}
use Rattle.chart.specs.Checked.{reading}
use Rattle.theory_answers.specs.Numbers.{asked}
use Rattle.mark_tables.proofs.closed.close_region.Given as goal

abbrev pub invariant-loop-x : goal.invariant-loop-x
invariant-loop-x l =
    (l.x ≤ l.chart.nodes) × (length l.closed ≡ 192) × ((y : ℕ) → y < l.x → get_or l.closed y 0 ≡ cond (asked (reading l.s l.chart) y) 0 1)
