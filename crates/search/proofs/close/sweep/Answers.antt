-- `search::close::sweep` meets its contract: the loop's invariant is the `Run` so far. Assumes nothing.
use Prim.Native.Nat.{◌<◌}
use native.Mathlib.Omega.{arith}
use Rattle.search.specs.Sweep.{none, more}
use Rattle.search.proofs.Runs.{run-from, run_long, place-below}
use Rattle.search.proofs.close.sweep.Goals as goal

pub loop-j-init : goal.loop-j-init
loop-j-init c = (c.requires.a_le_b.0, none)

pub bounds-keys-at : goal.bounds-keys-at
bounds-keys-at c =
    let inside : c.place_of-at.result < 1024 =
    let i = c.loop-j.invariant in
    omega (arith, c.place_of-at.ensures, c.requires.a_le_b.1, place-below c.args.a c.args.b c.args.back c.loop-j.j (run-from i.1) (omega arith)) in
    inside

pub bounds-values-at : goal.bounds-values-at
bounds-values-at c =
    let inside : c.place_of-at.result < 1024 =
    let i = c.loop-j.invariant in
    omega (arith, c.place_of-at.ensures, c.requires.a_le_b.1, place-below c.args.a c.args.b c.args.back c.loop-j.j (run-from i.1) (omega arith)) in
    inside

pub carry-new-requires : goal.carry-new-requires
carry-new-requires c =
    (run_long c.requires.a_le_b.2 c.loop-j.invariant.1, c.requires.by_index c.place_of-at.result, c.requires.by_index_2 c.place_of-at.result)

pub loop-j-preserved : goal.loop-j-preserved
loop-j-preserved c =
    (omega arith, more c.loop-j.invariant.1 (rw c.place_of-at.ensures at c.carry-new.ensures))
