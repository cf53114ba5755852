-- `answer_races::list::bad_accesses` meets its contract.
-- Assumes nothing.
use mathlib.Core.Path.{refl}
use Prim.Native.Nat.{◌/◌, ◌%◌}
use native.Mathlib.Omega.{arith}
use lib.ListN.{length}
use borrow.Author.Tests.{lt-ltb, le-ltb, eq-eqb, ne_eqb}
use Rattle.chart.specs.Checked.{reading}
use Rattle.chart.proofs.Records.{nodes-length}
use Rattle.theory_calls.specs.Access.{total, bad_accesses}
use Rattle.answer_races.proofs.list.bad_accesses.Goals as goal
use Rattle.answer_races.proofs.list.bad_accesses.Goals.{then-accesses-ne0-via-then-accesses-ne0, then-accesses-ne0-via-else-accesses-ne0+then-many}

pub returns-then-accesses-ne0 : goal.returns-then-accesses-ne0
unfolding bad_accesses total
returns-then-accesses-ne0 c = elim c.then-accesses-ne0.branch [
  | then-accesses-ne0-via-then-accesses-ne0 w ↦ rw (ne_eqb (length c.args.accesses.now % 4) 0 w.if-accesses-ne0.true) refl
  | then-accesses-ne0-via-else-accesses-ne0+then-many w ↦
      rw (eq-eqb (length c.args.accesses.now % 4) 0 w.if-accesses-ne0.false, lt-ltb 1024 (length c.args.accesses.now / 4) w.if-many.true) refl
]

pub any_bad-requires : goal.any_bad-requires
any_bad-requires c = (omega arith, c.requires.0.laid.nodes-most)

pub returns : goal.returns
unfolding bad_accesses total
returns c =
    let list = c.args.accesses.now in
    rw (eq-eqb (length list % 4) 0 c.if-accesses-ne0.false, le-ltb 1024 (length list / 4) c.if-many.false)
    (c.any_bad.ensures (reading c.args.s.now c.args.chart) c.requires.1 (nodes-length _ c.args.chart c.requires.0.laid) c.load_closed.ensures)
