-- The invariants and measures of `mark::joining::any_missed`.
use mathlib.Core.Path.{◌≡◌}
use lib.Dec.{eqb}
use lib.ListN.{get_or}
use Rattle.lists.specs.Range.{count}
use Rattle.mark.proofs.joining.any_missed.Given as goal

abbrev pub invariant-loop-mask : goal.invariant-loop-mask
invariant-loop-mask l = l.found ≡ count l.mask-index (λ y. eqb (get_or l.masks y 0) 0)
