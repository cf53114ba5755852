-- `mark_regions::inner::enter_inner` meets its contract: row 23, and where it does not apply the region's own marking.
-- Assumes nothing.
use mathlib.Core.Path.{refl, ap, sym, ◌∙◌, subst}
use mathlib.Core.Logic.{◌≢◌}
use lib.ListN.{length}
use Rattle.lists.specs.Truth.{bad}
use Rattle.chart.specs.Format.{outside}
use Rattle.chart.specs.Checked.{read_for, reading}
use Rattle.chart.specs.declared.format.Chart.{Chart}
use Rattle.theory_paths.specs.Phases.{barriers}
use Rattle.mark_tables.specs.Tables.{Accepted}
use Rattle.mark_tables.proofs.Accepted.{accepted-for}
use Rattle.mark_regions.proofs.Naming.{refused-region, marked-region, named}
use Rattle.mark_regions.proofs.inner.enter_inner.Goals as goal

pub returns-then-bad_region : goal.returns-then-bad_region
returns-then-bad_region c =
    record { value = refused-region _ c.args.region c.requires.0 (sym c.bad_region.ensures ∙ c.if-bad_region.true); entry = λ m q. absurd (bad (cc)) }

pub enter_region-requires : goal.enter_region-requires
enter_region-requires c =
    let inner : c.read_for-inner.result.region ≢ outside =
    λ q. c.requires.3 (sym (ap (λ (k : Chart). k.region) c.read_for-inner.ensures) ∙ q) in
    let N = named c.args.s.now c.args.region (sym c.bad_region.ensures ∙ c.if-bad_region.false) in
    record { accepted = (subst (Accepted c.args.s.now) (sym c.read_for-inner.ensures) (accepted-for _ _ c.requires.2 c.args.region N), λ q. absurd (inner q)); starts_value = (refl, refl) }

pub returns : goal.returns
returns c =
    let inner : c.read_for-inner.result.region ≢ outside =
    λ q. c.requires.3 (sym (ap (λ (k : Chart). k.region) c.read_for-inner.ensures) ∙ q) in
    let s = c.args.s.now in
    let p = c.args.region in
    let same = c.read_for-inner.ensures in record {
      value = c.enter_region.ensures.value.1 inner ∙ marked-region s p c.requires.0 (same ∙ ap (λ (k : Chart). read_for k p) (sym c.requires.1))
          (ap (λ (k : Chart). length (barriers (reading s k))) same) (sym c.bad_region.ensures ∙ c.if-bad_region.false);
      entry = c.enter_region.ensures.entry;
    }
