-- `call_judge::parts::part_from` meets its contract.
-- Assumes nothing.
use mathlib.Core.Path.{refl}
use Prim.Native.Nat.{◌*◌, ◌-◌}
use native.Mathlib.Omega.{arith}
use lib.ListN.{length, drop, length-drop}
use lib.Seq.{take_all}
use Rattle.call_judge.specs.Two.{placed}
use Rattle.call_judge.proofs.parts.part_from.Goals as goal

pub returns : goal.returns
unfolding placed
returns c =
    let a = c.args in
    (take_all (length a.claims.now - 2 * a.index) (drop (2 * a.index) a.claims.now) (omega (arith, length-drop (2 * a.index) a.claims.now)), refl)
