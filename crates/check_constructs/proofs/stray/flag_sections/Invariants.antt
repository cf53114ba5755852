-- The invariants and measures of `check_constructs::stray::flag_sections`.
use Prim.Native.Nat.{◌≤◌}
use Rattle.chart.specs.Format.{decode}
use Rattle.check_constructs.specs.Sections.{SectionsBelow}
use Rattle.check_constructs.proofs.stray.flag_sections.Given as goal

abbrev pub invariant-loop-c : goal.invariant-loop-c
invariant-loop-c l = (l.c ≤ l.chart.constructs) × SectionsBelow (decode l.s).constructs l.c l.flags
