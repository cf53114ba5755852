-- The invariants and measures of `mark_tables::cut::leaving`.
use mathlib.Core.Path.{◌≡◌}
use Prim.Native.Nat.{◌≤◌}
use lib.ListN.{length}
use Rattle.lists.specs.Store.{Written}
use Rattle.chart.specs.Format.{decode}
use Rattle.chart.specs.Scope.{leaving_at}
use Rattle.chart.specs.Nested.{lies_within}
use Rattle.mark_tables.proofs.Cutting.{flag_of}
use Rattle.mark_tables.proofs.cut.leaving.Given as goal

abbrev pub invariant-loop-x : goal.invariant-loop-x
invariant-loop-x l =
    (l.x ≤ l.chart.nodes) × (length l.flags ≡ 192)
    × Written (λ y. flag_of (lies_within (decode l.s).constructs l.chart.region (leaving_at (decode l.s).nodes (decode l.s).constructs y))) l.x l.flags
