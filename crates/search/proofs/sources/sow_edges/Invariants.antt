-- The invariants and measures of `search::sources::sow_edges`.
use mathlib.Core.Path.{◌≡◌}
use mathlib.Core.List.{[], ◌∷◌}
use lib.ListN.{length}
use Rattle.search.specs.Sweep.{Between}
use Rattle.search.specs.Fed.{Fed}
use Rattle.search.specs.Levels.{Each, Begins}
use Rattle.search.proofs.sources.sow_edges.Given as goal

abbrev pub invariant-loop-y : goal.invariant-loop-y
invariant-loop-y l =
    (length l.masks ≡ 192) × Fed (Between [] l.values 0 l.y-index) (l.own ∷ []) l.initial.masks l.masks × Each Begins l.masks l.levels
