-- `answer_claims::numbers::bad_numbers` meets its contract: after so many turns as many numbers are looked at.
-- Assumes nothing.
use mathlib.Core.Path.{◌≡◌, refl}
use Prim.Native.Nat.{◌<◌}
use native.Mathlib.Omega.{arith}
use native.Mathlib.Numerals.{add-one}
use lib.ListN.{length, get_or}
use Rattle.lists.specs.Range.{any}
use Rattle.chart.specs.Checked.{reading}
use Rattle.chart.proofs.Records.{nodes-length}
use Rattle.theory_calls.specs.Claims.{bad_numbers}
use Rattle.answer_claims.proofs.numbers.bad_numbers.Goals as goal

pub loop-x-init : goal.loop-x-init
unfolding any
loop-x-init c = λ R marked. refl

pub loop-x-preserved : goal.loop-x-preserved
unfolding any
loop-x-preserved c = λ R marked. let small : get_or c.args.claims.now c.loop-x.x-index 0 < 256 = omega (arith, c.type_inv.claims c.loop-x.x-index) in rw (marked _ small, c.loop-x.invariant R marked, add-one c.loop-x.x-index)

pub returns : goal.returns
unfolding bad_numbers
returns c =
    let q : c.loop-x.x-index ≡ length c.args.claims.now = omega arith in
    let R = reading c.args.s.now c.args.chart in
    rw q at (c.loop-x.invariant R (c.mark_bad.ensures R c.requires.1 (nodes-length _ c.args.chart c.requires.0.laid) c.load_closed.ensures))
