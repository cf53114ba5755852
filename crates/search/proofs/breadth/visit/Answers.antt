-- `search::breadth::visit` meets its contract: what it stores is one of the two cases. Assumes nothing.
use native.Mathlib.Omega.{arith}
use lib.Dec.{eqb}
use lib.ListN.{get_or}
use Rattle.search.specs.Steps.{fresh}
use Rattle.search.proofs.Visits.{room-end, none-flag, flag-most, known-adds}
use Rattle.search.proofs.breadth.visit.Goals.{then-old-eq0, else-old-eq0}
use Rattle.search.proofs.breadth.visit.Goals as goal

pub bounds-queue-tail : goal.bounds-queue-tail
bounds-queue-tail c = let r = c.requires.0 in omega (arith, room-end r)

pub overflow_add-result : goal.overflow_add-result
overflow_add-result c = let r = c.requires.0 in omega (arith, room-end r, flag-most (eqb (get_or c.args.levels.now c.args.y 0) 0), c.from.ensures)

pub returns : goal.returns
returns c = elim c.if-old-eq0.branch [
  | then-old-eq0 w ↦ rw (w.levels-is, c.from.ensures, none-flag _ w.if-old-eq0.true) (fresh w.if-old-eq0.true)
  | else-old-eq0 w ↦ rw (w.levels-is, c.from.ensures) (known-adds w.if-old-eq0.false)
]
