-- `answer_races::same_variable::write_from` meets its contract.
-- Assumes nothing.
use mathlib.Core.Path.{◌≡◌}
use Prim.Native.Nat.{◌≤◌, ◌<◌}
use native.Mathlib.Omega.{arith}
use Rattle.theory_calls.specs.Access.{total, access_at}
use Rattle.answer_races.proofs.Links.{write-none, write-here, write-later}
use Rattle.answer_races.proofs.same_variable.write_from.Goals as goal

pub returns-then-k-accesses : goal.returns-then-k-accesses
unfolding total
returns-then-k-accesses c i l F m L =
    let few : total c.args.accesses.now ≤ 1024 =
    omega (arith, c.requires) in
    (write-none c.args.accesses.now i few F l (omega arith), omega arith)

pub returns-then-accesses-k-ne-READ : goal.returns-then-accesses-k-ne-READ
unfolding access_at total
returns-then-accesses-k-ne-READ c i l F m L =
    let few : total c.args.accesses.now ≤ 1024 =
    omega (arith, c.requires) in
    (write-here c.args.accesses.now i few F c.if-accesses-k-ne-READ.true, m)

pub returns : goal.returns
unfolding total access_at
returns c i l F m L =
    let few : total c.args.accesses.now ≤ 1024 =
    omega (arith, c.requires) in
    let inside : c.args.k < total c.args.accesses.now =
    omega arith in
    let read : (access_at c.args.accesses.now c.args.k).write ≡ 0 =
    omega arith in
    let list = c.args.accesses.now in
    let k = c.args.k in
    let h = inside in
    rw c.from.ensures (write-later list i few F h read (L.next k F.from h), L.small k F.from h)
