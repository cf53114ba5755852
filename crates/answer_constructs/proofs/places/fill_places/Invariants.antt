-- The invariants and measures of `answer_constructs::places::fill_places`.
use Prim.Native.Nat.{◌≤◌}
use Rattle.chart.specs.Format.{decode}
use Rattle.answer_constructs.specs.Below.{Places}
use Rattle.answer_constructs.proofs.places.fill_places.Given as goal

abbrev pub invariant-loop-c : goal.invariant-loop-c
invariant-loop-c l = (l.c ≤ l.chart.constructs) × Places (decode l.s) l.chains l.inside l.c l.places
