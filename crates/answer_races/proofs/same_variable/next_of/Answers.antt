-- `answer_races::same_variable::next_of` meets its contract. The loop's invariant: no access passed is of the variable.
-- Assumes nothing.
use mathlib.Core.Path.{◌≡◌, sym, ◌∙◌}
use Prim.Native.Nat.{◌+◌, ◌≤◌, ◌<◌}
use native.Mathlib.Omega.{arith}
use lib.ListN.{get_or}
use Rattle.theory_calls.specs.Access.{total}
use Rattle.answer_races.specs.Linked.{FirstFrom, bucket}
use Rattle.answer_races.proofs.Chains.{sought-first, sought-more, sought-none}
use Rattle.answer_races.proofs.same_variable.next_of.Goals as goal

pub variable_at-variable-requires : goal.variable_at-variable-requires
unfolding total
variable_at-variable-requires c = omega (arith, c.requires.2)

pub loop-k-init : goal.loop-k-init
loop-k-init c =
    rw c.from-k.ensures (sought-first c.args.accesses.now c.args.i (c.requires.0.after c.args.i c.requires.2))

pub loop-k-smaller : goal.loop-k-smaller
unfolding total
loop-k-smaller c =
    let inside : c.loop-k.k < total c.args.accesses.now =
    c.loop-k-test.true in
    let linked : let list = c.args.accesses.now in
    FirstFrom (λ x. bucket list x ≡ bucket list c.loop-k.k) (total list) (c.loop-k.k + 1) (get_or c.args.under.now c.loop-k.k 0) =
    c.requires.0.after c.loop-k.k inside in
    omega (arith, c.from-k-in-loop-k.ensures, linked.from)

pub loop-k-preserved : goal.loop-k-preserved
unfolding total
loop-k-preserved c =
    let inside : c.loop-k.k < total c.args.accesses.now =
    c.loop-k-test.true in
    let linked : let list = c.args.accesses.now in
    FirstFrom (λ x. bucket list x ≡ bucket list c.loop-k.k) (total list) (c.loop-k.k + 1) (get_or c.args.under.now c.loop-k.k 0) =
    c.requires.0.after c.loop-k.k inside in
    rw c.from-k-in-loop-k.ensures (sought-more c.args.accesses.now c.args.i inside
    (λ q. c.if-variable_at-variable.false (c.variable_at.ensures ∙ q ∙ sym c.variable_at-variable.ensures)) c.loop-k.invariant linked)

pub returns : goal.returns
unfolding total
returns c =
    let few : total c.args.accesses.now ≤ 1024 =
    omega (arith, c.requires.1) in
    let past : total c.args.accesses.now ≤ c.loop-k.k =
    omega arith in
    (sought-none c.args.accesses.now c.args.i past few c.requires.2 c.loop-k.invariant, omega arith)
