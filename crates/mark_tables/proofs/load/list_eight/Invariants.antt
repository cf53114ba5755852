-- The invariants and measures of `mark_tables::load::list_eight`.
use Prim.Native.Nat.{◌+◌, ◌≤◌}
use Rattle.mark_tables.specs.Tables.{Listing}
use Rattle.mark_tables.proofs.load.list_eight.Given as goal

abbrev pub invariant-loop-k : goal.invariant-loop-k
invariant-loop-k l = (l.k ≤ 8) × Listing l.stops (l.from + l.k) l.nodes l.total
