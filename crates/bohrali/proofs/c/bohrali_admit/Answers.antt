-- `bohrali::c::bohrali_admit` meets its contract.
-- Assumes nothing.
use mathlib.Core.Path.{◌≡◌, ap, sym, subst, ◌∙◌}
use borrow.Author.Rules.{rules}
use mir.Syntax.{w64}
use mir.Val.{to_z, of_z}
use Rattle.theory_calls.specs.Admission.{admitted, number_of}
use Rattle.theory_calls.specs.PhasesCorrect.{AdmitCorrect}
use Rattle.theory_calls.specs.AdmitCorrectLaws.{admit-correct}
use Rattle.bohrali.proofs.SmallCounts.{small-counts}
use Rattle.bohrali.proofs.c.bohrali_admit.Goals as goal

pub number_of-requires : goal.number_of-requires
unfolding admitted
number_of-requires c counts h = small-counts c.args.chart.now counts (sym c.admit.ensures ∙ h)

pub returns : goal.returns
returns c =
    let e : to_z w64 (of_z w64 c.number_of.result) ≡ c.number_of.result = search rules in
    let q = e ∙ c.number_of.ensures ∙ ap number_of c.admit.ensures in
    record { value = q; admit_correct = subst (AdmitCorrect _) (sym q) (admit-correct _) }
