-- The invariants and measures of `call_admit::count::unite`.
use Rattle.chart.specs.Region.{Region}
use Rattle.theory_paths.specs.Phases.{forward, backward}
use Rattle.mark_tables.specs.Tables.{Masks}
use Rattle.masks.specs.Unions.{Added}
use Rattle.call_admit.specs.Unions.{United}
use Rattle.call_admit.proofs.count.unite.Given as goal

abbrev pub invariant-loop-x : goal.invariant-loop-x
invariant-loop-x l =
    Added l.unions l.last.starts l.last.ends l.unions × ((R : Region) → Masks forward R l.starts → Masks backward R l.ends → United R l.x l.unions)
