-- The invariants and measures of `mark_tables::load::any_stop`.
use mathlib.Core.Path.{◌≡◌}
use mathlib.Core.Bool.{not}
use lib.Dec.{eqb}
use Rattle.lists.specs.Range.{any}
use Rattle.mark_tables.specs.Tables.{stop_from}
use Rattle.mark_tables.proofs.load.any_stop.Given as goal

abbrev pub invariant-loop-stop : goal.invariant-loop-stop
invariant-loop-stop l = not (eqb l.found 0) ≡ any l.stop-index (stop_from l.stops l.x)
