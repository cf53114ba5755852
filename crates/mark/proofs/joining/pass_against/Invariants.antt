-- The invariants and measures of `mark::joining::pass_against`.
use mathlib.Core.Bool.{true}
use Prim.Native.Nat.{◌≤◌, ◌<◌}
use Rattle.mark.specs.Joined.{Told, Passed}
use Rattle.mark.proofs.joining.pass_against.Given as goal

abbrev pub invariant-loop-b : goal.invariant-loop-b
invariant-loop-b l = (l.b ≤ l.total) × Passed (Told true l.masks l.nodes l.total) (λ b c. (l.b ≤ c) × (c < l.total)) l.before l.all
