-- `mark_regions::entrance::enter` meets its contract: rows 1 to 10 of the outermost region, and where none of them applies row 23.
-- Assumes nothing.
use Rattle.std.proofs.Common.{◌≡◌, Err, rules, sym, ◌∙◌}
use Rattle.lists.specs.Truth.{bad}
use Rattle.mark_regions.proofs.Entering.{entered-refused, entered-marked, entered-counts}
use Rattle.mark_regions.proofs.Naming.{refused-first, marked-outermost}
use Rattle.mark_regions.proofs.entrance.enter.Goals as goal

pub returns-in_err-marked : goal.returns-in_err-marked
returns-in_err-marked c =
    let h = entered-refused _ _ _ (sym c.enter_outermost.ensures.value ∙ c.in_err-marked.was) in
    let same : c.from_residual.result ≡ Err c.in_err-marked.field-0.0 = search rules in
    record { value = same ∙ refused-first c.args.s.now c.args.region _ h; entry = λ m q. absurd (bad (cc)) }

pub enter_inner-requires : goal.enter_inner-requires
enter_inner-requires c =
    let h = sym c.enter_outermost.ensures.value ∙ c.in_ok-marked.was in
    (entered-marked _ _ _ h, entered-counts _ _ _ h, (c.enter_outermost.ensures.entry _ c.in_ok-marked.was).accepted, c.if-region-eq-OUTERMOST.false)

-- the outermost region
pub returns-then-region-eq-OUTERMOST : goal.returns-then-region-eq-OUTERMOST
returns-then-region-eq-OUTERMOST c =
    let given = c.in_ok-marked.was in record { value = marked-outermost c.args.s.now (sym given ∙ c.enter_outermost.ensures.value) c.args.region c.if-region-eq-OUTERMOST.true; entry = λ m q. c.enter_outermost.ensures.entry m (given ∙ q) }

pub returns : goal.returns
returns c = record { value = c.enter_inner.ensures.value; entry = c.enter_inner.ensures.entry }
