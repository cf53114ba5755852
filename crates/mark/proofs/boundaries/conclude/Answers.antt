-- `mark::boundaries::conclude` meets its contract.
-- Assumes nothing.
use mathlib.Core.Path.{◌∙◌}
use Prim.Native.Nat.{◌-◌}
use native.Mathlib.Omega.{arith}
use Rattle.theory_paths.specs.FoundLaws.{listed-turned}
use Rattle.theory_paths.specs.Phases.{forward, backward}
use Rattle.mark.proofs.Searching.{standing, found-along, lost-told, all-masks}
use Rattle.mark.proofs.boundaries.conclude.Goals as goal

pub returns : goal.returns
returns c =
    let some = c.requires.barriers_bound.1 in record {
      spread_of = (λ places stops R W A S B s t q.
          let N = standing S W B in
          let masks = c.reach_stops.ensures A.count _ A.split N s in
          let led = found-along S forward A.listed-edge A.edge-listed masks.every in
          let ahead = lost-told S forward A.listed-edge A.edge-listed W B 0 some masks.passable in
          let behind = lost-told S backward (λ x y t. A.listed-edge y x (listed-turned x y t)) (λ x y h. listed-turned y x (A.edge-listed y x h)) W B (c.args.extent.barriers - 1) (omega arith) t in
          rw (
            c.any_apart-apart.ensures forward R W B led,
            c.any_stuck-stuck.ensures R W B led,
            c.any_missed.ensures,
            c.any_missed-2.ensures,
            q,
            ahead,
            behind,
            B.count,
          ));
      spread_of_2 = λ places stops R W A S B s t.
          let N = standing S W B in
          let masks = c.reach_stops.ensures A.count _ A.split N s in (
            (λ y l. all-masks S forward A.listed-edge A.edge-listed W B masks.passable y),
            (λ y l. all-masks S backward (λ x y t. A.listed-edge y x (listed-turned x y t)) (λ x y h. listed-turned y x (A.edge-listed y x h)) W B t y),
          );
    }
