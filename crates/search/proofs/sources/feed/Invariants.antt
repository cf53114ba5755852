-- The invariants and measures of `search::sources::feed`.
use mathlib.Core.Path.{◌≡◌}
use lib.ListN.{length}
use Rattle.search.specs.Sweep.{Between}
use Rattle.search.specs.Fed.{Fed}
use Rattle.search.proofs.sources.feed.Given as goal

abbrev pub invariant-loop-x : goal.invariant-loop-x
invariant-loop-x l = (length l.masks ≡ 192) × Fed (Between l.keys l.values 0 (length l.yielded)) l.from l.initial.masks l.masks
