-- The invariants and measures of `answer_nodes::gather_sets`.
use mathlib.Core.Path.{◌≡◌}
use mathlib.Core.List.{[]}
use Prim.Native.Nat.{ℕ, ◌*◌, ◌≤◌, ◌<◌}
use lib.ListN.{length, get_or, replicate}
use Rattle.answer_nodes.specs.Gathered.{Gathered}
use Rattle.answer_nodes.proofs.gather_sets.Given as goal

abbrev pub invariant-loop-w : goal.invariant-loop-w
invariant-loop-w l =
    (l.w ≤ 3) × (length l.sets ≡ 3) × ((k : ℕ) → k < l.w → Gathered l.closed l.masks (64 * k) (get_or l.sets k [])) × ((k : ℕ) → l.w ≤ k → k < 3 → get_or l.sets k [] ≡ replicate 64 0)
