-- The invariants and measures of `call_admit::count::count`.
use mathlib.Core.Path.{◌≡◌}
use Prim.Native.Nat.{◌≤◌, ◌*◌}
use lib.ListN.{length}
use Rattle.lists.specs.Range.{count_pairs}
use Rattle.chart.specs.Region.{Region}
use Rattle.theory_paths.specs.Phases.{forward, backward, barriers, phase}
use Rattle.mark_tables.specs.Tables.{Masks}
use Rattle.call_admit.proofs.count.count.Given as goal

abbrev pub invariant-loop-union : goal.invariant-loop-union
invariant-loop-union l =
    (l.sum ≤ 64 * l.union-index)
    × ((R : Region) → l.n ≡ R.nodes → l.total ≡ length (barriers R) → Masks forward R l.starts → Masks backward R l.ends
    → l.sum ≡ count_pairs l.union-index (length (barriers R)) (phase R))
