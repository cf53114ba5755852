-- `answer_races::rows::fill_row` meets its contract.
-- Assumes nothing.
use mathlib.Core.Path.{◌≡◌, sym, subst}
use Prim.Native.Nat.{ℕ, ◌<◌}
use native.Mathlib.Omega.{arith}
use lib.ListN.{length, get_or, length-set}
use Rattle.lists.specs.Store.{zeros}
use Rattle.theory_calls.specs.Access.{total, access_at}
use Rattle.answer_races.specs.Linked.{Linked}
use Rattle.answer_races.proofs.Visits.{walk-read, walk-write}
use Rattle.answer_races.proofs.rows.fill_row.Goals as goal

pub bounds-accesses-i : goal.bounds-accesses-i
unfolding total
bounds-accesses-i c = omega (arith, c.requires.2, c.requires.3)

pub walk-requires : goal.walk-requires
unfolding access_at
walk-requires c =
    let cleared : (x : ℕ) → get_or c.fill.new.self x 0 ≡ 0 = λ x. rw (c.fill.ensures.after (λ y e. e)) (zeros _ x) in
    let read : (access_at c.args.accesses.now c.args.i).write ≡ 0 = omega arith in (
      subst (λ (w : ℕ). Linked c.args.accesses.now w 0 c.args.writes.now) (sym read) c.requires.0.1,
      c.requires.1,
      omega (arith, c.requires.2),
      omega (arith, c.requires.3),
      c.requires.4,
      walk-read c.args.line.now c.args.accesses.now (total c.args.accesses.now) c.args.i _ cleared read,
    )

pub race_of-requires : goal.race_of-requires
unfolding total
race_of-requires c = (omega (arith, c.requires.2, c.requires.3), c.requires.4 c.args.i)

pub walk-requires-2 : goal.walk-requires-2
unfolding access_at
walk-requires-2 c =
    let cleared : (x : ℕ) → get_or c.fill.new.self x 0 ≡ 0 = λ x. rw (c.fill.ensures.after (λ y e. e)) (zeros _ x) in
    let written : (access_at c.args.accesses.now c.args.i).write ≡ 1 = omega (arith, c.requires.5) in
    let some : 0 < length c.fill.new.self = omega (arith, c.requires.3) in (
      subst (λ (w : ℕ). Linked c.args.accesses.now w 0 c.args.all.now) (sym written) c.requires.0.0,
      c.requires.1,
      simp length-set (omega (arith, c.requires.2)),
      simp length-set some,
      c.requires.4,
      walk-write c.args.line.now c.args.accesses.now (total c.args.accesses.now) c.args.i c.fill.new.self cleared _ some written c.race_of.ensures,
    )
