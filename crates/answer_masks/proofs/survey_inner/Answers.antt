-- `answer_masks::survey_inner` meets its contract: row 10 from the outermost region's marking, row 23, and the region's own masks.
-- Assumes nothing.
use Rattle.std.proofs.Common.{Err, rules}
use Rattle.std.specs.Prelude.{Ok}
use mathlib.Core.Path.{◌≡◌, refl, ap, sym, ◌∙◌, subst}
use mathlib.Core.Logic.{◌≢◌}
use mathlib.Core.Option.{none}
use lib.ListN.{length}
use Rattle.lists.specs.Truth.{bad}
use Rattle.chart.specs.Format.{outside}
use Rattle.chart.specs.Refusal.{first_of}
use Rattle.chart.specs.Checked.{counts_of, read_for, checked_by, reading}
use Rattle.chart.specs.declared.format.Chart.{Chart}
use Rattle.check_chart.proofs.Outcome.{passed_none, refused-some}
use Rattle.theory_paths.specs.Admission.{admit_rows}
use Rattle.theory_paths.specs.Phases.{barriers}
use Rattle.mark_tables.specs.Tables.{Accepted}
use Rattle.mark_tables.proofs.Accepted.{accepted, accepted-for}
use Rattle.mark_regions.proofs.Entering.{read_whole, entered-refused, entered-marked}
use Rattle.mark_regions.proofs.Naming.{refused-first, refused-region, marked-region, named}
use Rattle.answer_masks.proofs.survey_inner.Goals as goal

pub survey_region-requires : goal.survey_region-requires
survey_region-requires c =
    let (h, _, blank) = c.requires.s_value in
    let framed = c.requires.both_framed in
    record { accepted = (accepted _ _ h, (λ _. h), blank); both_framed = framed }

pub bad_region-requires : goal.bad_region-requires
bad_region-requires c =
    ((c.survey_region.ensures.survey _ c.in_ok-whole.was).accepted.laid, c.requires.s_value.1)

-- row 23
pub returns-then-bad_region : goal.returns-then-bad_region
unfolding checked_by
returns-then-bad_region c =
    let outer : (let s = c.args.s.now in c.survey_region.result ≡ checked_by (first_of (admit_rows s)) (counts_of s)) =
    c.survey_region.ensures.value.0 (read_whole _ _ c.requires.s_value.0) in
    let admits : (whole : Chart) → c.survey_region.result ≡ Ok whole
    → (let s = c.args.s.now in (first_of (admit_rows s) ≡ none) × (counts_of s ≡ whole)) =
    λ whole q. passed_none _ _ _ (sym outer ∙ q) in
    let n = entered-refused _ _ _ (sym (refused-region c.args.s.now c.args.region (admits _ c.in_ok-whole.was).0 (sym c.bad_region.ensures ∙ c.if-bad_region.true))) in
    record { value = rw n; survey = λ chart q. absurd (bad (cc)) }

-- row 10
pub returns-in_err-whole : goal.returns-in_err-whole
unfolding checked_by
returns-in_err-whole c =
    let outer : (let s = c.args.s.now in c.survey_region.result ≡ checked_by (first_of (admit_rows s)) (counts_of s)) =
    c.survey_region.ensures.value.0 (read_whole _ _ c.requires.s_value.0) in
    let n = refused-some _ _ _ (sym outer ∙ c.in_err-whole.was) in
    let same : c.from_residual.result ≡ Err c.in_err-whole.field-0.0 = search rules in
    record { value = same ∙ sym (rw (entered-refused _ _ _ (sym (refused-first c.args.s.now c.args.region _ n)))); survey = λ chart q. absurd (bad (cc)) }

pub survey_region-requires-2 : goal.survey_region-requires-2
survey_region-requires-2 c =
    let inner : c.read_for-inner.result.region ≢ outside =
    λ q. c.requires.s_value.1 (sym (ap (λ (k : Chart). k.region) c.read_for-inner.ensures) ∙ q) in
    let A = (c.survey_region.ensures.survey _ c.in_ok-whole.was).accepted in
    let N = named c.args.s.now c.args.region (sym c.bad_region.ensures ∙ c.if-bad_region.false) in record {
      accepted = (
        subst (Accepted c.args.s.now) (sym c.read_for-inner.ensures) (accepted-for _ _ A c.args.region N),
        λ q. absurd (inner q),
        (refl, refl, refl),
      );
      both_framed = c.requires.both_framed;
    }

pub returns : goal.returns
unfolding checked_by
returns c =
    let outer : (let s = c.args.s.now in c.survey_region.result ≡ checked_by (first_of (admit_rows s)) (counts_of s)) =
    c.survey_region.ensures.value.0 (read_whole _ _ c.requires.s_value.0) in
    let admits : (whole : Chart) → c.survey_region.result ≡ Ok whole
    → (let s = c.args.s.now in (first_of (admit_rows s) ≡ none) × (counts_of s ≡ whole)) =
    λ whole q. passed_none _ _ _ (sym outer ∙ q) in
    let inner : c.read_for-inner.result.region ≢ outside =
    λ q. c.requires.s_value.1 (sym (ap (λ (k : Chart). k.region) c.read_for-inner.ensures) ∙ q) in
    let s = c.args.s.now in
    let p = c.args.region in
    let (admitted, counts) = admits _ c.in_ok-whole.was in
    let same = c.read_for-inner.ensures ∙ ap (λ (c : Chart). read_for c p) (sym counts) in
    let marked = marked-region s p admitted same (ap (λ (c : Chart). length (barriers (reading s c))) same) (sym c.bad_region.ensures ∙ c.if-bad_region.false) in
    record { value = c.survey_region-2.ensures.value.1 inner ∙ rw (entered-marked _ _ _ (sym marked), same) refl; survey = c.survey_region-2.ensures.survey }
