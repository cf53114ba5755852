-- `answer_claims::list::is_false` meets its contract.
-- Assumes nothing.
use Prim.Native.Nat.{◌+◌, ◌*◌}
use native.Mathlib.Omega.{arith}
use Rattle.theory_calls.specs.Claims.{left, right, is_false}
use Rattle.theory_calls.proofs.CorrectLaws.{good-numbers}
use Rattle.answer_claims.proofs.list.is_false.Goals as goal

pub returns : goal.returns
unfolding is_false left right
returns c R size M Z h =
    let k = c.args.k in
    let below-a = (good-numbers R _ h (2 * k) (omega arith) M.well-formed).0 in
    let below-b = (good-numbers R _ h (2 * k + 1) (omega arith) M.well-formed).0 in
    let r = c.pair.ensures R size M Z (omega (arith, below-a)) (omega (arith, below-b)) in
    cc r
