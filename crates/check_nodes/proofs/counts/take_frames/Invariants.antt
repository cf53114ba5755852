-- The invariants and measures of `check_nodes::counts::take_frames`.
use mathlib.Core.Path.{◌≡◌}
use Prim.Native.Nat.{◌≤◌}
use lib.ListN.{length}
use Rattle.lists.specs.Store.{Written}
use Rattle.check_nodes.specs.Framed.{noted_at, lacking}
use Rattle.check_nodes.proofs.counts.take_frames.Given as goal

abbrev pub invariant-loop-c : goal.invariant-loop-c
invariant-loop-c l =
    (l.c ≤ l.constructs) × (length l.frames ≡ 64) × (l.lacks ≡ lacking l.kind l.c l.noted) × Written (noted_at l.kind l.noted) l.c l.frames
