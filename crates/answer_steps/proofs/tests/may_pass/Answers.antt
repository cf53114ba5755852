-- `answer_steps::tests::may_pass` meets its contract.
-- Assumes nothing.
use mathlib.Core.Path.{refl, sym, ◌∙◌, ap}
use mathlib.Core.Logic.{inl, inr}
use Prim.Native.Nat.{suc}
use native.Mathlib.Omega.{arith}
use native.Mathlib.Numerals.{add-one}
use Rattle.chart.specs.Region.{single, master, sections}
use Rattle.chart.specs.Scope.{kind_of}
use Rattle.theory_traces.specs.Tests.{all_taken, may_pass}
use Rattle.answer_steps.proofs.Laws.{kind_at, picked-passes, pass-last, in_table}
use Rattle.answer_steps.proofs.tests.may_pass.Goals as goal

pub returns-then-kind-from : goal.returns-then-kind-from
unfolding kind_of
returns-then-kind-from c =
    λ R σ T S.
    picked-passes R c.args.m σ c.args.t c.args.c (inl (kind_at T _ (in_table T c.requires.3) single c.at-kind.ensures 1 (c.if-kind-from.true ∙ c.from.ensures) refl)) (c.may_enter.ensures R σ T S)

pub returns-then-kind-from-2 : goal.returns-then-kind-from-2
unfolding kind_of
returns-then-kind-from-2 c =
    λ R σ T S.
    picked-passes R c.args.m σ c.args.t c.args.c (inr (kind_at T _ (in_table T c.requires.3) master c.at-kind.ensures 2 (c.if-kind-from-2.true ∙ c.from-2.ensures) refl)) (c.may_enter-then-kind-from-2.ensures R σ T S)

pub returns-then-kind-from-3 : goal.returns-then-kind-from-3
unfolding may_pass kind_of
returns-then-kind-from-3 c =
    λ R σ T S.
    let own = c.count_of.ensures ∙ S.count c.args.t c.args.c c.requires.2 (omega (arith, c.requires.3, T.constructs, T.few)) in
    rw (kind_at T _ (in_table T c.requires.3) sections c.at-kind.ensures 6 (c.if-kind-from-3.true ∙ c.from-3.ensures) refl) (c.all_taken.ensures R σ T S ∙ ap (all_taken R c.args.m σ c.args.c) (add-one _ ∙ ap suc own))

pub returns : goal.returns
returns c =
    λ R σ T S.
    let kind = T.kind c.args.c (in_table T c.requires.3) ∙ ap kind_of (sym c.at-kind.ensures) in
    let last = pass-last R c.args.m σ c.args.t c.args.c _ kind (λ z. c.if-kind-from.false (z ∙ sym c.from.ensures)) (λ z. c.if-kind-from-2.false (z ∙ sym c.from-2.ensures)) (λ z. c.if-kind-from-3.false (z ∙ sym c.from-3.ensures)) in
    rw c.from-4.ensures (sym last)
