-- The invariants and measures of `answer_races::pairs::fill_races`.
use mathlib.Core.Path.{◌≡◌}
use Prim.Native.Nat.{◌≤◌}
use lib.ListN.{length}
use Rattle.lists.specs.Rows.{start_of, filled}
use Rattle.lists.specs.Triangle.{pairs_from}
use Rattle.theory_calls.specs.Access.{total}
use Rattle.answer_races.specs.PairsLines.{line_byte}
use Rattle.answer_races.proofs.RowsLaws.{Long}
use Rattle.answer_races.proofs.pairs.fill_races.Given as goal

abbrev pub invariant-loop-i : goal.invariant-loop-i
invariant-loop-i l =
    (l.i ≤ total l.accesses) × (l.at ≡ start_of (pairs_from (total l.accesses)) l.i) × Long (length l.initial.out) l.out
    × (l.out ≡ filled (pairs_from (total l.accesses)) (line_byte l.lines l.accesses) l.i l.initial.out)
