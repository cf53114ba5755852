-- `search::waiting::link` meets its contract: after each turn the edges before it are linked. Assumes nothing.
use native.Mathlib.Omega.{arith}
use mathlib.Core.Path.{◌≡◌}
use Rattle.search.proofs.Linking.{linked-turn}
use Rattle.search.proofs.waiting.link.Goals as goal

pub loop-j-preserved : goal.loop-j-preserved
loop-j-preserved c =
    let j = c.loop-j.j in
    (omega arith, omega arith, λ u h i. (linked-turn u c.args.a j h c.loop-j.invariant.0 (omega arith) (c.requires.a_le_b.2 j) (c.loop-j.invariant.2 u h i)))

pub returns : goal.returns
returns c =
    let q : c.loop-j.j ≡ c.args.b = omega arith in
    rw q at c.loop-j.invariant.2
