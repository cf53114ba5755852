-- `mark::boundaries::fill` meets its contract.
-- Assumes nothing.
use native.Mathlib.Omega.{arith}
use Rattle.theory_paths.specs.Phases.{forward}
use Rattle.mark.proofs.Searching.{ready, standing, all-levels}
use Rattle.mark.proofs.boundaries.fill.Goals as goal

pub boundaries-requires : goal.boundaries-requires
boundaries-requires c =
    let (few, none, some, nodes, starts, ends, (p, D, handed)) = c.requires.barriers_bound in
    let below = c.requires.by_index in
    record { barriers_le_total = (omega arith, omega arith, starts, ends, ready handed); by_index = below }

pub returns : goal.returns
returns c =
    let none = c.requires.barriers_bound.1 in record {
      by_index_2 = (λ stops R W A S B.
          let (s, d, t) = c.boundaries.ensures.boundaries A.count _ A.split A.begins (standing S W B) in
          c.conclude.ensures.spread_of _ stops R W A S B (rw none at s) t);
      by_index_3 = λ stops R W A S B.
          let (s, d, t) = c.boundaries.ensures.boundaries A.count _ A.split A.begins (standing S W B) in
          let (starts, ends) = c.conclude.ensures.spread_of_2 _ stops R W A S B (rw none at s) t in
          (starts, ends, all-levels S forward A.listed-edge A.edge-listed W B d);
    }
