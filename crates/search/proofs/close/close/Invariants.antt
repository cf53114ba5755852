-- The invariants and measures of `search::close::close`.
use Prim.Native.Nat.{◌<◌}
use lib.Bits.{bit_or}
use Rattle.lists.specs.Mask.{Sub}
use Rattle.search.proofs.Turns.{Closing}
use Rattle.search.proofs.close.close.Given as goal

abbrev pub invariant-loop-new : goal.invariant-loop-new
invariant-loop-new l =
    Closing bit_or Sub (λ m. m < 18446744073709551616) l.keys l.values l.ups l.low l.initial.masks l.masks l.new

abbrev pub decreases-loop-new : goal.decreases-loop-new
decreases-loop-new l = l.left
