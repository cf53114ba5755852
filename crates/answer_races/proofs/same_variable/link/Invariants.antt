-- The invariants and measures of `answer_races::same_variable::link`.
use mathlib.Core.Path.{◌≡◌}
use lib.ListN.{length}
use Rattle.answer_races.specs.Linked.{Linked}
use Rattle.answer_races.proofs.same_variable.link.Given as goal

abbrev pub invariant-loop-i : goal.invariant-loop-i
invariant-loop-i l =
    (length l.all ≡ 1025) × (length l.writes ≡ 1025) × Linked l.accesses 1 l.i l.all × Linked l.accesses 0 l.i l.writes
