-- `search::close::close` meets its contract: the falling edges stay closed, and when a sweep is quiet the rising ones are. Assumes nothing.
use Prim.Native.Nat.{◌<◌}
use native.Mathlib.Omega.{arith}
use lib.Bits.{bit_or}
use Rattle.lists.specs.Mask.{Sub}
use Rattle.search.proofs.Runs.{masks-kind, carried_on}
use Rattle.search.proofs.Turns.{Closing, opened, still, again, closing-closed, rebase}
use Rattle.search.proofs.close.close.Goals as goal

pub loop-new-init : goal.loop-new-init
loop-new-init c =
    let first_two : (let args = c.args in
    Closing bit_or Sub (λ m. m < 18446744073709551616) args.keys.now args.values.now args.ups args.low args.masks.now
    c.sweep-new-2.new.masks c.sweep-new-2.result) =
    let (L, long) = c.requires.lists in
    let fits = c.requires.by_index in
    opened masks-kind L long fits c.sweep-new.ensures c.sweep-new-2.ensures in
    rebase first_two

pub returns-then-left-turn : goal.returns-then-left-turn
returns-then-left-turn c =
    let first_two : (let args = c.args in
    Closing bit_or Sub (λ m. m < 18446744073709551616) args.keys.now args.values.now args.ups args.low args.masks.now
    c.sweep-new-2.new.masks c.sweep-new-2.result) =
    let (L, long) = c.requires.lists in
    let fits = c.requires.by_index in
    opened masks-kind L long fits c.sweep-new.ensures c.sweep-new-2.ensures in
    let h = c.loop-new.invariant.half in
    record { carried = carried_on first_two.half.carried (carried_on h.carried c.drain.ensures.carried); closed = c.drain.ensures.closed }

pub loop-new-preserved-then-new-ne0 : goal.loop-new-preserved-then-new-ne0
loop-new-preserved-then-new-ne0 c =
    let L = c.requires.lists.0 in
    again masks-kind L c.loop-new.invariant c.sweep-new-in-loop-new.ensures c.sweep-new-then-new-ne0.ensures

pub loop-new-preserved : goal.loop-new-preserved
loop-new-preserved c =
    let L = c.requires.lists.0 in
    still masks-kind L c.loop-new.invariant (omega arith) c.sweep-new-in-loop-new.ensures

pub returns : goal.returns
returns c =
    let first_two : (let args = c.args in
    Closing bit_or Sub (λ m. m < 18446744073709551616) args.keys.now args.values.now args.ups args.low args.masks.now
    c.sweep-new-2.new.masks c.sweep-new-2.result) =
    let (L, long) = c.requires.lists in
    let fits = c.requires.by_index in
    opened masks-kind L long fits c.sweep-new.ensures c.sweep-new-2.ensures in
    let i = c.loop-new.invariant in
    record { carried = carried_on first_two.half.carried i.half.carried; closed = closing-closed i (omega arith) }
