-- `answer_races::same_variable::link` meets its contract. The loop's invariant: each access passed is linked.
-- Assumes nothing.
use mathlib.Core.Path.{◌≡◌, subst}
use Prim.Native.Nat.{ℕ, ◌+◌, ◌-◌, ◌≤◌, ◌<◌}
use native.Mathlib.Omega.{arith}
use Rattle.theory_calls.specs.Access.{total, access_at}
use Rattle.answer_races.specs.Linked.{FirstFrom, Beside, Linked}
use Rattle.answer_races.proofs.Links.{beside-write, link-length, linked-more}
use Rattle.answer_races.proofs.same_variable.link.Goals as goal

pub loop-i-init : goal.loop-i-init
unfolding total
loop-i-init c = (
  c.requires.1,
  c.requires.2,
  record { next = λ j l h. absurd (omega arith); second = λ j l h. absurd (omega arith); small = λ j l h. absurd (omega arith) },
  record { next = λ j l h. absurd (omega arith); second = λ j l h. absurd (omega arith); small = λ j l h. absurd (omega arith) },
)

pub next_of-k-requires : goal.next_of-k-requires
unfolding total
next_of-k-requires c = (c.chain.ensures, c.requires.0, omega (arith, c.loop-i.auto.i))

pub put-requires-in-loop-i : goal.put-requires-in-loop-i
unfolding total
put-requires-in-loop-i c =
    let few : total c.args.accesses.now ≤ 1024 =
    omega (arith, c.requires.0) in
    let low : (c.loop-i.i - 1 < total c.args.accesses.now) × (c.loop-i.i - 1 < 1024) × (c.loop-i.i ≡ c.loop-i.i - 1 + 1) =
    (omega (arith, c.loop-i.auto.i), omega (arith, c.loop-i.auto.i, few), omega arith) in
    let written : let list = c.args.accesses.now in
    let i = c.loop-i.i - 1 in
    FirstFrom (Beside list 0 (access_at list i).variable) (total list) (i + 1) c.write_from-w.result × (c.write_from-w.result ≤ 1024) =
    let list = c.args.accesses.now in
    let (inside, few, q) = low in
    c.write_from-w.ensures (c.loop-i.i - 1) inside c.next_of-k.ensures.0 c.next_of-k.ensures.1 (subst (λ (i : ℕ). Linked list 0 i c.loop-i.writes) q c.loop-i.invariant.3) in
    (c.loop-i.invariant.1, low.1, written.1)

pub loop-i-preserved : goal.loop-i-preserved
unfolding total
loop-i-preserved c =
    let few : total c.args.accesses.now ≤ 1024 =
    omega (arith, c.requires.0) in
    let low : (c.loop-i.i - 1 < total c.args.accesses.now) × (c.loop-i.i - 1 < 1024) × (c.loop-i.i ≡ c.loop-i.i - 1 + 1) =
    (omega (arith, c.loop-i.auto.i), omega (arith, c.loop-i.auto.i, few), omega arith) in
    let written : let list = c.args.accesses.now in
    let i = c.loop-i.i - 1 in
    FirstFrom (Beside list 0 (access_at list i).variable) (total list) (i + 1) c.write_from-w.result × (c.write_from-w.result ≤ 1024) =
    let list = c.args.accesses.now in
    let (inside, few, q) = low in
    c.write_from-w.ensures (c.loop-i.i - 1) inside c.next_of-k.ensures.0 c.next_of-k.ensures.1 (subst (λ (i : ℕ). Linked list 0 i c.loop-i.writes) q c.loop-i.invariant.3) in
    let list = c.args.accesses.now in
    let i = c.loop-i.i - 1 in
    let k = c.next_of-k.result in
    let (wide, long, all, writes) = c.loop-i.invariant in
    let (inside, few, q) = low in
    rw (c.put.ensures, c.put-in-loop-i.ensures) (
      link-length c.loop-i.all i k wide few,
      link-length c.loop-i.writes i c.write_from-w.result long few,
      linked-more list 1 i k wide few q c.next_of-k.ensures.1 (beside-write list (access_at list i).variable c.next_of-k.ensures.0) all,
      linked-more list 0 i c.write_from-w.result long few q written.1 written.0 writes,
    )
