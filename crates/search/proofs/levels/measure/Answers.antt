-- `search::levels::measure` meets its contract: the falling edges stay closed, and when a sweep is quiet the rising ones are. Assumes nothing.
use mathlib.Core.Path.{refl}
use Prim.Native.Nat.{◌≤◌}
use native.Mathlib.Omega.{arith}
use Rattle.search.specs.LevelLaws.{nearer, Follows}
use Rattle.lists.specs.Truth.{clash}
use Rattle.search.proofs.Runs.{levels-kind, run-swept, carried_on}
use Rattle.search.proofs.Turns.{Closing, opened, still, again, closing-closed, rebase}
use Rattle.search.proofs.levels.measure.Goals as goal

pub sweep-new-requires-2 : goal.sweep-new-requires-2
sweep-new-requires-2 c =
    let (L, long) = c.requires.lists in
    let fits = c.requires.by_index in
    let w = run-swept levels-kind _ _ _ _ _ L.key L.value long fits c.sweep-new.ensures in
    record { a_le_b = (L.low-most, omega arith, w.long, w.bound); by_index = (L.key, L.value) }

pub loop-new-init : goal.loop-new-init
loop-new-init c =
    let first_two : (let args = c.args in
    Closing nearer Follows (λ d. d ≤ 254) args.keys.now args.values.now args.ups args.low args.levels.now
    c.sweep-new-2.new.levels c.sweep-new-2.result) =
    let (L, long) = c.requires.lists in
    let fits = c.requires.by_index in
    opened levels-kind L long fits c.sweep-new.ensures c.sweep-new-2.ensures in
    rebase first_two

pub returns-then-left-turn : goal.returns-then-left-turn
returns-then-left-turn c =
    let first_two : (let args = c.args in
    Closing nearer Follows (λ d. d ≤ 254) args.keys.now args.values.now args.ups args.low args.levels.now
    c.sweep-new-2.new.levels c.sweep-new-2.result) =
    let (L, long) = c.requires.lists in
    let fits = c.requires.by_index in
    opened levels-kind L long fits c.sweep-new.ensures c.sweep-new-2.ensures in
    record { carried = carried_on first_two.half.carried c.loop-new.invariant.half.carried; closed = λ h. absurd (clash h refl) }

pub sweep-new-requires-then-new-ne0 : goal.sweep-new-requires-then-new-ne0
sweep-new-requires-then-new-ne0 c =
    let L = c.requires.lists.0 in
    let h = c.loop-new.invariant.half in
    let w = run-swept levels-kind _ _ _ _ _ L.key L.value h.long h.bound c.sweep-new-in-loop-new.ensures in
    record { a_le_b = (L.low-most, omega arith, w.long, w.bound); by_index = (L.key, L.value) }

pub loop-new-preserved-then-new-ne0 : goal.loop-new-preserved-then-new-ne0
loop-new-preserved-then-new-ne0 c =
    let L = c.requires.lists.0 in
    again levels-kind L c.loop-new.invariant c.sweep-new-in-loop-new.ensures c.sweep-new-then-new-ne0.ensures

pub loop-new-preserved : goal.loop-new-preserved
loop-new-preserved c =
    let L = c.requires.lists.0 in
    still levels-kind L c.loop-new.invariant (omega arith) c.sweep-new-in-loop-new.ensures

pub returns : goal.returns
returns c =
    let first_two : (let args = c.args in
    Closing nearer Follows (λ d. d ≤ 254) args.keys.now args.values.now args.ups args.low args.levels.now
    c.sweep-new-2.new.levels c.sweep-new-2.result) =
    let (L, long) = c.requires.lists in
    let fits = c.requires.by_index in
    opened levels-kind L long fits c.sweep-new.ensures c.sweep-new-2.ensures in
    let i = c.loop-new.invariant in
    record { carried = carried_on first_two.half.carried i.half.carried; closed = λ _. closing-closed i (omega arith) }
