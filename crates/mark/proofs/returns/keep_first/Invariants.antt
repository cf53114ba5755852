-- The invariants and measures of `mark::returns::keep_first`.
use Rattle.search.proofs.Writing.{Writing}
use Rattle.mark.specs.Returning.{First}
use Rattle.mark.proofs.returns.keep_first.Given as goal

abbrev pub invariant-loop-mask : goal.invariant-loop-mask
invariant-loop-mask l = Writing (First l.k) l.initial.masks l.mask-index l.initial.masks l.masks
