-- The invariants and measures of `mark_tables::load::barriers`.
use Prim.Native.Nat.{◌*◌, ◌≤◌}
use Rattle.mark_tables.specs.Tables.{Listing}
use Rattle.mark_tables.proofs.load.barriers.Given as goal

abbrev pub invariant-loop-k : goal.invariant-loop-k
invariant-loop-k l = (l.k ≤ 24) × Listing l.stops (8 * l.k) l.nodes l.total
