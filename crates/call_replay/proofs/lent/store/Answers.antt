-- `call_replay::lent::store` meets its contract. The loop's invariant: the records passed are stored.
-- Assumes nothing.
use mathlib.Core.Path.{◌≡◌, sym}
use Prim.Native.Nat.{suc}
use native.Mathlib.Omega.{arith}
use native.Mathlib.Numerals.{add-one}
use lib.ListN.{set}
use Rattle.call_replay.specs.Stored.{stored}
use Rattle.call_replay.proofs.Laws.{stored-none, stored_more}
use Rattle.call_replay.proofs.lent.store.Goals as goal

pub loop-t-init : goal.loop-t-init
loop-t-init c = (omega arith, sym (stored-none c.args.team.threads c.args.threads.now))

pub bounds-threads-t : goal.bounds-threads-t
bounds-threads-t c = omega (arith, c.loop-t.auto.threads)

pub loop-t-preserved : goal.loop-t-preserved
loop-t-preserved c =
    let xs = c.args.team.threads in
    let ys = c.args.threads.now in
    let one : set c.loop-t.threads c.loop-t.t c.record_of-record.result ≡ stored xs (suc c.loop-t.t) ys =
    rw (c.loop-t.invariant.1, c.record_of-record.ensures) (sym (stored_more xs c.loop-t.t ys)) in
    (omega arith, rw add-one one)

pub returns : goal.returns
returns c =
    let q : c.loop-t.t ≡ c.args.n = omega arith in
    rw (← q) c.loop-t.invariant.1
