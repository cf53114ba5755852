-- The invariants and measures of `call_replay::play::play`.
use mathlib.Core.Path.{◌≡◌}
use Prim.Native.Nat.{◌*◌, ◌-◌, ◌/◌, ◌≤◌}
use lib.ListN.{length}
use Rattle.chart.specs.Region.{Region}
use Rattle.theory_traces.specs.Replay.{Play, begun, going, progress}
use Rattle.answer_steps.specs.Tables.{Tabled}
use Rattle.call_replay.specs.PairsMet.{Kept}
use Rattle.call_replay.specs.Playing.{Playing, Few}
use Rattle.call_replay.proofs.play.play.Given as goal

abbrev pub invariant-loop-i : goal.invariant-loop-i
invariant-loop-i l =
    (l.i ≤ length l.trace / 2)
    × ((R : Region) → Tabled R l.table → Playing R l.m l.rows (begun R l.m) l.initial.team l.initial.out
    → (P : Play) × (progress R l.m l.trace l.i ≡ going P) × (Playing R l.m l.rows P l.team l.out × (Few l.i P.state × Kept (l.rows.count * R.nodes) l.initial.out l.out)))
