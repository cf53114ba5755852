-- `answer_races::same_variable::variable_at` meets its contract.
-- Assumes nothing.
use mathlib.Core.Path.{◌≡◌}
use Prim.Native.Nat.{◌+◌, ◌*◌}
use native.Mathlib.Omega.{arith}
use Rattle.chart.specs.Format.{field}
use Rattle.theory_calls.specs.Access.{access_at}
use Rattle.answer_races.proofs.same_variable.variable_at.Goals as goal

pub returns : goal.returns
unfolding access_at field
returns c =
    let q : 4 * c.args.i + 2 + 1 ≡ 4 * c.args.i + 3 = omega arith in
    rw (c.from.ensures, c.from_le_bytes.ensures, q) (omega arith)
