-- `answer_steps::tests::untaken_by` meets its contract.
-- Assumes nothing.
use mathlib.Core.Path.{sym, ◌∙◌, ap}
use mathlib.Core.Bool.{not}
use Prim.Native.Nat.{ℕ, ◌≤◌, ◌<◌}
use native.Mathlib.Omega.{arith}
use borrow.Author.Tests.{eq-eqb, ne_eqb, le-leb, lt-leb}
use Rattle.lists.specs.Bits.{has, has_of}
use Rattle.answer_steps.proofs.tests.untaken_by.Goals as goal

pub returns : goal.returns
returns c =
    λ σ S.
    let own = c.count_of-own.ensures ∙ S.count c.args.t c.args.c c.requires.2 c.requires.0 in
    let most : σ.encounters c.args.t c.args.c ≤ c.args.instance = omega (arith, own, c.if-instance-own.false) in
    let mask = c.taken_of.ensures ∙ S.taken c.args.t c.args.c c.requires.2 c.requires.0 in
    rw (le-leb _ _ most, eq-eqb _ _ (sym own ∙ c.if-own-instance.false))
    (ap not (c.has.ensures ∙ ap (λ (w : ℕ). has w c.args.x) mask ∙ has_of (σ.taken c.args.t c.args.c) 48 c.args.x c.requires.1))
