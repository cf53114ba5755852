-- `bohrali::c::bohrali_phases` meets its contract.
-- Assumes nothing.
use mathlib.Core.Path.{◌≡◌, ap, sym, ◌∙◌}
use mathlib.Core.List.{[]}
use native.Mathlib.Omega.{arith}
use lib.ListN.{length}
use borrow.Author.Rules.{rules}
use mir.Syntax.{w64}
use mir.Val.{to_z, of_z}
use Rattle.chart.specs.Format.{decode}
use Rattle.chart.specs.Reading.{region_of}
use Rattle.theory_paths.specs.Admission.{region_rows}
use Rattle.output.specs.Output.{number_of}
use Rattle.output.proofs.Outputs.{had-room}
use Rattle.output.proofs.OutputCorrectLaws.{carried}
use Rattle.theory_calls.specs.Phases.{phases_result}
use Rattle.theory_calls.specs.PhasesCorrect.{PhasesCorrect}
use Rattle.theory_calls.specs.PhasesCorrectLaws.{phases-correct}
use Rattle.bohrali.proofs.c.bohrali_phases.Goals as goal

-- a result that was written had room, and so fits
pub number_of-requires : goal.number_of-requires
number_of-requires c count h =
    let s = c.args.chart.now in
    let region = c.args.region in
    let r = had-room (region_rows s region) [] (length c.args.out.now) (length (phases_result (region_of region (decode s)))) (sym c.phases.ensures.value ∙ h) in
    omega (arith, r.0, r.1)

pub returns : goal.returns
returns c =
    let e : to_z w64 (of_z w64 c.number_of.result) ≡ c.number_of.result = search rules in
    let both = carried (PhasesCorrect _ _ _) (e ∙ c.number_of.ensures ∙ ap number_of c.phases.ensures.value) c.phases.ensures.out_after (phases-correct _ _ _) in
    record { value = both.0; out_after = both.1.0; phases_correct = both.1.1 }
