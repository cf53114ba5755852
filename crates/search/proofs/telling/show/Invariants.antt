-- The invariants and measures of `search::telling::show`.
use Prim.Native.Nat.{◌≤◌}
use Rattle.search.specs.Levels.{Shows}
use Rattle.search.proofs.Writing.{Writing}
use Rattle.search.proofs.telling.show.Given as goal

abbrev pub invariant-loop-y : goal.invariant-loop-y
invariant-loop-y l = (l.y ≤ 192) × Writing Shows l.levels l.y l.initial.masks l.masks
