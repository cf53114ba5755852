-- `search::together::sweep` meets its contract: the loop's invariant is `Together` so far. Assumes nothing.
use Prim.Native.Nat.{◌<◌}
use native.Mathlib.Omega.{arith}
use mathlib.Core.Bool.{true}
use lib.ListN.{get_or}
use Rattle.search.specs.Parts.{row}
use Rattle.search.specs.Together.{Lent}
use Rattle.search.proofs.Runs.{place-below, risen-step}
use Rattle.search.proofs.Abreast.{begun, turned, together-lent, from}
use Rattle.search.proofs.together.sweep.Goals as goal

pub loop-j-init : goal.loop-j-init
loop-j-init c = (c.requires.a_le_b.0, begun)

pub carry-new-requires : goal.carry-new-requires
carry-new-requires c =
    let lent : Lent c.loop-j.starts c.loop-j.levels c.loop-j.ends =
    together-lent c.requires.by_index.0 c.requires.by_index.1 c.requires.a_le_b.2 c.loop-j.invariant.1 in
    (lent.starts, c.requires.by_index.0 c.loop-j.j, c.requires.by_index.1 c.loop-j.j)

pub ascend-requires : goal.ascend-requires
ascend-requires c =
    let lent : Lent c.loop-j.starts c.loop-j.levels c.loop-j.ends =
    together-lent c.requires.by_index.0 c.requires.by_index.1 c.requires.a_le_b.2 c.loop-j.invariant.1 in
    let node : get_or (row c.args.edges.now 3) c.loop-j.j 0 < 192 =
    c.requires.by_index.1 c.loop-j.j in
    (lent.levels, c.requires.by_index.0 c.loop-j.j, node, lent.levels-fit _)

pub bounds-values-at : goal.bounds-values-at
bounds-values-at c =
    let inside : c.place_of-at.result < 1024 =
    let args = c.args in
    omega (arith, c.place_of-at.ensures, c.requires.a_le_b.1, place-below args.a args.b true c.loop-j.j (from c.loop-j.invariant.1) (omega arith)) in
    inside

pub bounds-keys-at : goal.bounds-keys-at
bounds-keys-at c =
    let inside : c.place_of-at.result < 1024 =
    let args = c.args in
    omega (arith, c.place_of-at.ensures, c.requires.a_le_b.1, place-below args.a args.b true c.loop-j.j (from c.loop-j.invariant.1) (omega arith)) in
    inside

pub carry-new-requires-in-loop-j : goal.carry-new-requires-in-loop-j
carry-new-requires-in-loop-j c =
    let lent : Lent c.loop-j.starts c.loop-j.levels c.loop-j.ends =
    together-lent c.requires.by_index.0 c.requires.by_index.1 c.requires.a_le_b.2 c.loop-j.invariant.1 in
    (lent.ends, c.requires.by_index.1 c.place_of-at.result, c.requires.by_index.0 c.place_of-at.result)

pub loop-j-preserved : goal.loop-j-preserved
loop-j-preserved c =
    let below : c.loop-j.j < c.args.b =
    omega arith in (
      omega (arith, below),
      turned c.place_of-at.result c.place_of-at.ensures c.loop-j.invariant.1 c.carry-new.ensures (risen-step c.ascend.ensures) c.carry-new-in-loop-j.ensures,
    )
