-- The invariants and measures of `check_nodes::counts::note_nodes`.
use Prim.Native.Nat.{◌≤◌}
use Rattle.chart.specs.Format.{decode}
use Rattle.check_nodes.specs.Framed.{Noted}
use Rattle.check_nodes.proofs.counts.note_nodes.Given as goal

abbrev pub invariant-loop-x : goal.invariant-loop-x
invariant-loop-x l = (l.x ≤ l.chart.nodes) × (l.frames ≤ l.x) × Noted (decode l.s) l.x l.noted l.frames
