-- The invariants and measures of `answer_nodes::sets::gather`.
use mathlib.Core.Path.{◌≡◌}
use Prim.Native.Nat.{ℕ, ◌≤◌, ◌<◌}
use lib.ListN.{length}
use Rattle.lists.specs.Mask.{mask_of}
use Rattle.answer_nodes.specs.Gathered.{having, pending}
use Rattle.answer_nodes.proofs.sets.gather.Given as goal

abbrev pub invariant-loop-j : goal.invariant-loop-j
invariant-loop-j l =
    (l.j ≤ l.end) × (length l.sets ≡ 64) × ((b : ℕ) → b < 64 → pending l.sets l.run.mask l.run.set b ≡ mask_of (having l.closed l.masks l.first b) l.j)
