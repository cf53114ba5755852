-- `answer_steps::tests::taken_by` meets its contract.
-- Assumes nothing.
use mathlib.Core.Path.{◌≡◌, sym, ◌∙◌}
use mathlib.Core.Bool.{true, false}
use Prim.Native.Nat.{◌≤◌, ◌<◌}
use native.Mathlib.Omega.{arith}
use borrow.Author.Tests.{eq-eqb, ne_eqb, le-leb, lt-leb, not-false}
use Rattle.lists.specs.Truth.{clash}
use Rattle.lists.specs.Mask.{has-none, mask-of}
use Rattle.answer_steps.specs.Tables.{untaken_by}
use Rattle.answer_steps.proofs.tests.taken_by.Goals as goal

pub returns-then-instance-own : goal.returns-then-instance-own
returns-then-instance-own c =
    λ R σ T S x l h.
    let own = c.count_of-own.ensures ∙ S.count c.args.t c.args.c c.requires.2 c.requires.1 in
    let past : c.args.instance < σ.encounters c.args.t c.args.c = omega (arith, own, c.if-instance-own.true) in
    ((λ g. rw (lt-leb _ _ past)), λ g. rw (T.sections c.args.c c.requires.1) ((mask-of _ R.constructs).all x l h))

pub returns : goal.returns
returns c =
    λ R σ T S x l h.
    let own = c.count_of-own.ensures ∙ S.count c.args.t c.args.c c.requires.2 c.requires.1 in
    let most : σ.encounters c.args.t c.args.c ≤ c.args.instance = omega (arith, own, c.if-instance-own.false) in
    let now = sym own ∙ c.if-own-instance.false in
    let mask = c.taken_of.ensures ∙ S.taken c.args.t c.args.c c.requires.2 c.requires.1 in
    let few : x < 48 = omega (arith, l, T.few) in
    rw (mask, le-leb _ _ most, eq-eqb _ _ now) (
      (λ g. rw ((mask-of (σ.taken c.args.t c.args.c) 48).only x few g)),
      λ g. (mask-of (σ.taken c.args.t c.args.c) 48).all x few (not-false _ g),
    )
