-- The invariants and measures of `mark::joining::joined`.
use Prim.Native.Nat.{◌^◌, ◌-◌}
use Rattle.mark.specs.Joined.{Told}
use Rattle.mark.proofs.JoiningLaws.{Joins}
use Rattle.mark.proofs.joining.joined.Given as goal

abbrev pub invariant-loop-before : goal.invariant-loop-before
invariant-loop-before l = Joins (Told l.against l.masks l.nodes l.total) (2 ^ l.source) l.all

abbrev pub decreases-loop-before : goal.decreases-loop-before
decreases-loop-before l = 2 ^ 64 - l.all
