-- The invariants and measures of `check_constructs::nesting::bad_nesting`.
use mathlib.Core.Path.{◌≡◌}
use mathlib.Core.List.{List}
use mathlib.Core.Bool.{Bool, false, ◌||◌}
use Prim.Native.Nat.{ℕ, ◌≤◌}
use Rattle.lists.specs.Range.{any}
use Rattle.chart.specs.Format.{decode}
use Rattle.chart.specs.Nesting.{misnested}
use Rattle.chart.specs.Refusal.{bad_alone}
use Rattle.check_constructs.specs.Kinds.{KindsFrom, KindAt, NotedTo}
use Rattle.check_constructs.proofs.nesting.bad_nesting.Given as goal

abbrev pub bad : List ℕ → ℕ → Bool
bad s c = bad_alone (decode s).constructs c || misnested (decode s).constructs c

abbrev pub invariant-loop-c : goal.invariant-loop-c
invariant-loop-c l =
    (l.c ≤ l.chart.constructs) × (any l.c (bad l.s) ≡ false) × NotedTo (KindsFrom (decode l.s).constructs) l.c l.under × NotedTo (KindAt (decode l.s).constructs) l.c l.own
