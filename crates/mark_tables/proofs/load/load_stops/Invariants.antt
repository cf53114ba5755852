-- The invariants and measures of `mark_tables::load::load_stops`.
use mathlib.Core.Path.{◌≡◌}
use Prim.Native.Nat.{◌≤◌}
use lib.ListN.{length}
use Rattle.lists.specs.Store.{Written}
use Rattle.mark_tables.proofs.Loading.{stop_of}
use Rattle.mark_tables.proofs.load.load_stops.Given as goal

abbrev pub invariant-loop-x : goal.invariant-loop-x
invariant-loop-x l = (l.x ≤ l.chart.nodes) × (length l.stops ≡ 192) × Written (stop_of l.s l.chart) l.x l.stops
