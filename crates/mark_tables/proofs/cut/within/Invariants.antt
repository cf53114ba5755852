-- The invariants and measures of `mark_tables::cut::within`.
use mathlib.Core.Path.{◌≡◌}
use Prim.Native.Nat.{◌≤◌}
use lib.ListN.{length}
use Rattle.lists.specs.Store.{Written}
use Rattle.chart.specs.Format.{decode}
use Rattle.chart.specs.Nested.{lies_within}
use Rattle.mark_tables.proofs.Cutting.{flag_of}
use Rattle.mark_tables.proofs.cut.within.Given as goal

abbrev pub invariant-loop-c : goal.invariant-loop-c
invariant-loop-c l =
    (l.c ≤ l.chart.constructs) × (length l.flags ≡ 256) × Written (λ q. flag_of (lies_within (decode l.s).constructs l.chart.region q)) l.c l.flags
