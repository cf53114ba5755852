-- The invariants and measures of `answer_sheet::sheet::fill_sheet`.
use mathlib.Core.Path.{◌≡◌}
use Prim.Native.Nat.{ℕ, ◌≤◌, ◌<◌}
use lib.ListN.{length, get_or}
use Rattle.chart.specs.Region.{Region}
use Rattle.lists.specs.Rows.{after}
use Rattle.theory_answers.specs.Answer.{answer_for}
use Rattle.theory_answers.specs.Sheet.{entry}
use Rattle.theory_answers.specs.declared.Size.{Size}
use Rattle.mark_tables.specs.Tables.{Closed}
use Rattle.answer_constructs.specs.Marks.{Sized, Marks}
use Rattle.answer_sheet.specs.Sheet.{row_of}
use Rattle.answer_sheet.proofs.sheet.fill_sheet.Given as goal

abbrev pub invariant-loop-a : goal.invariant-loop-a
invariant-loop-a l =
    (l.a ≤ l.n) × (length l.last ≡ 192) × ((j : ℕ) → j < 192 → get_or l.last j 0 ≡ row_of l.closed l.sets l.marks l.kept j)
    × ((R : Region) (size : Size) → R.nodes ≡ l.n → Marks R l.marks l.sets.kinds → Sized R size l.sets → Closed R l.closed → l.out ≡ after (entry R (answer_for R size)) R.nodes l.a l.initial.out)
