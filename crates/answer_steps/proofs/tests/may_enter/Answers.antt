-- `answer_steps::tests::may_enter` meets its contract.
-- Assumes nothing.
use mathlib.Core.Path.{refl, sym, ◌∙◌, ap}
use Prim.Native.Nat.{ℕ}
use native.Mathlib.Omega.{arith}
use lib.Dec.{eqb}
use Rattle.chart.specs.Region.{single, master, ordered, sections}
use Rattle.chart.specs.Scope.{kind_of}
use Rattle.theory_traces.specs.Tests.{none_ordered, may_enter}
use Rattle.answer_steps.proofs.Laws.{kind_at, enter-last, in_table}
use Rattle.answer_steps.proofs.tests.may_enter.Goals as goal

pub returns-then-kind-from : goal.returns-then-kind-from
unfolding may_enter kind_of
returns-then-kind-from c = λ R σ T S. rw (kind_at T _ (in_table T c.requires.3) single c.at-kind.ensures 1 (c.if-kind-from.true ∙ c.from.ensures) refl) (c.is_first.ensures σ S)

pub returns-then-kind-from-2 : goal.returns-then-kind-from-2
unfolding may_enter kind_of
returns-then-kind-from-2 c = λ R σ T S. rw (kind_at T _ (in_table T c.requires.3) master c.at-kind.ensures 2 (c.if-kind-from-2.true ∙ c.from-2.ensures) refl, T.thread _ (in_table T c.requires.3)) (ap (λ (z : ℕ). eqb c.args.t z) c.at.ensures)

pub returns-then-kind-from-3 : goal.returns-then-kind-from-3
unfolding may_enter kind_of
returns-then-kind-from-3 c = λ R σ T S. rw (kind_at T _ (in_table T c.requires.3) ordered c.at-kind.ensures 5 (c.if-kind-from-3.true ∙ c.from-3.ensures) refl) (c.none_ordered.ensures R σ T S ∙ ap (none_ordered R c.args.m σ c.args.t) (c.at-then-kind-from-3.ensures ∙ sym (T.parent _ (in_table T c.requires.3))))

pub returns-then-kind-from-4 : goal.returns-then-kind-from-4
unfolding may_enter kind_of
returns-then-kind-from-4 c = λ R σ T S. rw (kind_at T _ (in_table T c.requires.3) sections c.at-kind.ensures 6 (c.if-kind-from-4.true ∙ c.from-4.ensures) refl)

pub returns : goal.returns
returns c =
    λ R σ T S.
    let kind = T.kind c.args.c (in_table T c.requires.3) ∙ ap kind_of (sym c.at-kind.ensures) in
    let last = enter-last R c.args.m σ c.args.t c.args.c _ kind (λ z. c.if-kind-from.false (z ∙ sym c.from.ensures)) (λ z. c.if-kind-from-2.false (z ∙ sym c.from-2.ensures)) (λ z. c.if-kind-from-3.false (z ∙ sym c.from-3.ensures)) (λ z. c.if-kind-from-4.false (z ∙ sym c.from-4.ensures)) in
    rw c.from-5.ensures (sym last)
