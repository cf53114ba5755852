-- `search::levels::sweep` meets its contract: the loop's invariant is the `Run` so far. Assumes nothing.
use Prim.Native.Nat.{◌≤◌, ◌<◌}
use native.Mathlib.Omega.{arith}
use mathlib.Core.Path.{refl}
use mathlib.Core.Bool.{false}
use lib.ListN.{get_or}
use Rattle.search.specs.Sweep.{none}
use Rattle.search.proofs.Runs.{Swept, levels-kind, run-swept, risen-step, more-at, place-false}
use Rattle.search.proofs.levels.sweep.Goals as goal

pub loop-j-init : goal.loop-j-init
loop-j-init c = (c.requires.a_le_b.0, none)

pub ascend-requires : goal.ascend-requires
ascend-requires c =
    let swept : Swept (λ a b. b ≤ a) (λ d. d ≤ 254) c.args.levels.now c.loop-j.levels c.loop-j.new =
    let sizes = c.requires.a_le_b in
    let nodes = c.requires.by_index in
    run-swept levels-kind _ _ _ _ _ nodes.0 nodes.1 sizes.2 sizes.3 c.loop-j.invariant.1 in
    let node : get_or c.args.values.now c.loop-j.j 0 < 192 =
    c.requires.by_index.1 c.loop-j.j in
    let key = c.requires.by_index.0 c.loop-j.j in
    (swept.long, key, node, swept.bound _)

pub loop-j-preserved : goal.loop-j-preserved
loop-j-preserved c =
    (omega arith, more-at c.loop-j.j (place-false _ _ _ false refl) c.loop-j.invariant.1 (risen-step c.ascend.ensures))
