-- `answer_pairs::rules::ruled_by` meets its contract. The loop's invariant: no rule passed applies.
-- Assumes nothing.
use mathlib.Core.Path.{◌≡◌, refl, sym, ◌∙◌}
use mathlib.Core.Bool.{true}
use Prim.Native.Nat.{◌<◌}
use native.Mathlib.Omega.{arith}
use Rattle.lists.specs.Range.{any, at-any, any-more, first-is}
use Rattle.lists.specs.Common.{common}
use Rattle.answer_pairs.specs.Rules.{numbered, by_rules, rule_by, ruled_by}
use Rattle.answer_pairs.proofs.rules.ruled_by.Goals as goal
use Rattle.answer_pairs.proofs.rules.ruled_by.Goals.{then-not-common-via-then-not-common, then-not-common-via-else-not-common+then-not-common-2}

pub returns-then-not-common : goal.returns-then-not-common
unfolding ruled_by by_rules
returns-then-not-common c = elim c.then-not-common.branch [
  | then-not-common-via-then-not-common w ↦ rw (sym c.common.ensures ∙ w.if-not-common.true)
  | then-not-common-via-else-not-common+then-not-common-2 w ↦ rw (sym c.common.ensures ∙ w.if-not-common.false, sym w.common-else-not-common.ensures ∙ w.if-not-common-2.true)
]

pub loop-k-init : goal.loop-k-init
unfolding any
loop-k-init c = (omega arith, refl)

pub returns-then-common : goal.returns-then-common
unfolding ruled_by by_rules numbered
returns-then-common c =
    let starts-shared : common c.args.x.starts c.args.y.starts ≡ true =
    sym c.common.ensures ∙ c.if-not-common.false in
    let ends-shared : common c.args.x.ends c.args.y.ends ≡ true =
    sym c.common-else-not-common.ensures ∙ c.if-not-common-2.false in
    let a = c.args in
    let f = rule_by a.sets.kinds a.x.held a.y.held in
    let k = c.loop-k.k in
    let below : k < 4 = omega arith in
    let p : f k ≡ true = sym c.common-in-loop-k.ensures ∙ c.if-common.true in
    rw (starts-shared, ends-shared, at-any 4 f k below p, first-is 4 f k below p c.loop-k.invariant.1) (omega arith)

pub loop-k-preserved : goal.loop-k-preserved
loop-k-preserved c =
    (omega arith, any-more c.loop-k.k _ c.loop-k.invariant.1 (sym c.common-in-loop-k.ensures ∙ c.if-common.false))

pub returns : goal.returns
unfolding ruled_by by_rules numbered
returns c =
    let starts-shared : common c.args.x.starts c.args.y.starts ≡ true =
    sym c.common.ensures ∙ c.if-not-common.false in
    let ends-shared : common c.args.x.ends c.args.y.ends ≡ true =
    sym c.common-else-not-common.ensures ∙ c.if-not-common-2.false in
    let q : c.loop-k.k ≡ 4 = omega arith in
    rw (starts-shared, ends-shared, rw q at c.loop-k.invariant.1)
