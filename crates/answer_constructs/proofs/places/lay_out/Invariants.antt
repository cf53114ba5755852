-- The invariants and measures of `answer_constructs::places::lay_out`.
use Prim.Native.Nat.{◌≤◌}
use Rattle.chart.specs.Format.{decode}
use Rattle.answer_constructs.specs.Below.{LaidOut}
use Rattle.answer_constructs.proofs.places.lay_out.Given as goal

abbrev pub invariant-loop-x : goal.invariant-loop-x
invariant-loop-x l = (l.x ≤ l.chart.nodes) × LaidOut (decode l.s) l.chains l.inside l.x l.initial.masks l.masks
