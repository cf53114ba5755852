-- The invariants and measures of `check_edges::joins_sections`.
use mathlib.Core.Bool.{cond}
use mathlib.Core.Path.{◌≡◌}
use Prim.Native.Nat.{◌≤◌}
use Rattle.lists.specs.Range.{any}
use Rattle.chart.specs.Format.{decode}
use Rattle.chart.specs.Refusal.{joins_sections}
use Rattle.check_edges.proofs.joins_sections.Given as goal

abbrev pub invariant-loop-i : goal.invariant-loop-i
invariant-loop-i l = (l.i ≤ l.chart.edges) × (l.found ≡ cond (any l.i (joins_sections (decode l.s))) 1 0)
