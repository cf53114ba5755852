-- The invariants and measures of `mark::joining::pass_along`.
use mathlib.Core.Bool.{false}
use Prim.Native.Nat.{◌≤◌, ◌<◌}
use Rattle.mark.specs.Joined.{Told, Passed}
use Rattle.mark.proofs.joining.pass_along.Given as goal

abbrev pub invariant-loop-b : goal.invariant-loop-b
invariant-loop-b l = (l.b ≤ l.total) × Passed (Told false l.masks l.nodes l.total) (λ i c. i < l.b) l.before l.all
