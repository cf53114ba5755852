-- `answer_races::same_variable::chain` meets its contract. The loop's invariant: of the accesses passed, the first of each bucket is known, and each is linked.
-- Assumes nothing.
use mathlib.Core.Path.{◌≡◌, ◌∙◌}
use Prim.Native.Nat.{ℕ, ◌+◌, ◌-◌, ◌/◌, ◌≤◌, ◌<◌}
use native.Mathlib.Omega.{arith}
use lib.ListN.{length, length-replicate, length-set}
use Rattle.theory_calls.specs.Access.{total}
use Rattle.answer_races.specs.Linked.{bucket}
use Rattle.answer_races.proofs.Chains.{heads-none, heads-more, chains-more}
use Rattle.answer_races.proofs.same_variable.chain.Goals as goal

pub loop-i-init : goal.loop-i-init
loop-i-init c =
    let n = length c.args.accesses.now / 4 in
    let few : n ≤ 1024 = omega (arith, c.requires.0) in
    (c.requires.1, length-replicate {A = ℕ} 1021 1024, heads-none (bucket c.args.accesses.now) n few, λ j l m. absurd (omega arith))

pub loop-i-preserved : goal.loop-i-preserved
unfolding bucket
loop-i-preserved c =
    let few : c.loop-i.i - 1 < 1024 =
    omega (arith, c.requires.0) in
    let list = c.args.accesses.now in
    let n = length list / 4 in
    let i = c.loop-i.i - 1 in
    let (long, wide, heads, chains) = c.loop-i.invariant in
    let e : c.loop-i.i ≡ i + 1 = omega arith in
    let b : bucket list i < 1021 = omega arith in
    rw c.variable_at-bucket.ensures (
      length-set c.loop-i.under i _ ∙ long,
      length-set c.loop-i.heads (bucket list i) i ∙ wide,
      heads-more (bucket list) n c.loop-i.heads wide e b heads,
      chains-more (bucket list) n c.loop-i.under (omega (arith, few)) e (heads (bucket list i) b) chains,
    )

pub returns : goal.returns
unfolding total
returns c = record { after = λ j h. c.loop-i.invariant.3 j (omega arith) h }
