-- The invariants and measures of `answer_claims::numbers::mark_bad`.
use mathlib.Core.Path.{◌≡◌}
use Prim.Native.Nat.{◌≤◌}
use Rattle.chart.specs.Region.{Region}
use Rattle.chart.specs.WellFormed.{WellFormed}
use Rattle.mark_tables.specs.Tables.{Closed}
use Rattle.answer_claims.proofs.Marked.{Marked}
use Rattle.answer_claims.proofs.numbers.mark_bad.Given as goal

abbrev pub invariant-loop-x : goal.invariant-loop-x
invariant-loop-x l = (l.x ≤ l.n) × ((R : Region) → WellFormed R → R.nodes ≡ l.n → Closed R l.closed → Marked R l.x l.bad)
