-- `bohrali::sized::judge` meets its contract.
-- Assumes nothing.
use mathlib.Core.Path.{◌≡◌, ap, sym, ◌∙◌}
use native.Mathlib.Omega.{arith}
use borrow.Author.Rules.{rules}
use Rattle.theory_calls.specs.Claims.{total}
use Rattle.theory_calls.specs.Judged.{number_of}
use Rattle.call_judge.proofs.Facts.{failed-below}
use mir.Val.{to_z, of_z}
use mir.Syntax.{w64}
use Rattle.bohrali.proofs.sized.judge.Goals as goal

-- the index is that of a claim, and so fits
pub number_of-requires : goal.number_of-requires
unfolding total
number_of-requires c index h =
    omega (arith, failed-below c.args.chart.now c.args.region c.args.size c.args.claims.now index (sym c.judge.ensures ∙ h))

pub returns : goal.returns
returns c =
    let e : to_z w64 (of_z w64 c.number_of.result) ≡ c.number_of.result = search rules in
    e ∙ c.number_of.ensures ∙ ap number_of c.judge.ensures
