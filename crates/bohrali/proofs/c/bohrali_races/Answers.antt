-- `bohrali::c::bohrali_races` meets its contract.
-- Assumes nothing.
use mathlib.Core.Path.{◌≡◌, ap, sym, ◌∙◌}
use mathlib.Core.List.{[]}
use native.Mathlib.Omega.{arith}
use lib.ListN.{length}
use borrow.Author.Rules.{rules}
use mir.Syntax.{w64}
use mir.Val.{to_z, of_z}
use Rattle.theory_calls.specs.Races.{races, list_rows}
use Rattle.theory_calls.specs.RacesCorrect.{RacesCorrect}
use Rattle.theory_calls.proofs.RacesCorrectLaws.{races-correct}
use Rattle.chart.specs.Format.{decode}
use Rattle.chart.specs.Reading.{region_of}
use Rattle.output.specs.Output.{number_of}
use Rattle.output.proofs.Outputs.{had-room}
use Rattle.output.proofs.OutputCorrectLaws.{carried}
use Rattle.bohrali.proofs.c.bohrali_races.Goals as goal

-- a result that was written had room, and so fits
pub number_of-requires : goal.number_of-requires
number_of-requires c count h =
    let s = c.args.chart.now in
    let region = c.args.region in
    let list = c.args.accesses.now in
    let r = had-room (list_rows s region list) [] (length c.args.out.now) (length (races (region_of region (decode s)) list)) (sym c.races.ensures.value ∙ h) in
    omega (arith, r.0, r.1)

pub returns : goal.returns
returns c =
    let e : to_z w64 (of_z w64 c.number_of.result) ≡ c.number_of.result = search rules in
    let both = carried (RacesCorrect _ _ _ _) (e ∙ c.number_of.ensures ∙ ap number_of c.races.ensures.value) c.races.ensures.out_after (races-correct _ _ _ _) in
    record { value = both.0; out_after = both.1.0; races_correct = both.1.1 }
