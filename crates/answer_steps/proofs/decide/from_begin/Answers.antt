-- `answer_steps::decide::from_begin` meets its contract.
-- Assumes nothing.
use mathlib.Core.Path.{sym, ◌∙◌, ap}
use mathlib.Core.Bool.{Bool, cond}
use Prim.Native.Nat.{ℕ, suc, ◌+◌}
use native.Mathlib.Omega.{arith}
use native.Mathlib.Numerals.{add-one}
use lib.ListN.{get_or}
use Rattle.theory_traces.specs.Decide.{taking, from_begin}
use Rattle.theory_traces.specs.declared.Effect.TheVariants.{None, Takes}
use Rattle.answer_steps.proofs.decide.from_begin.Goals as goal

pub returns-then-goes : goal.returns-then-goes
unfolding from_begin
returns-then-goes c = record { of_states = λ R σ T S. rw (sym (c.goes.ensures R σ T S) ∙ c.if-goes.true); numbered = omega (arith, c.requires.4, c.requires.0.tabled.constructs, c.requires.0.tabled.few) }

pub returns-then-passes : goal.returns-then-passes
unfolding from_begin
returns-then-passes c = record { of_states = λ R σ T S. rw (sym (c.goes.ensures R σ T S) ∙ c.if-goes.false, sym (c.passes.ensures R σ T S) ∙ c.if-passes.true); numbered = omega (arith, c.requires.4, c.requires.0.tabled.constructs, c.requires.0.tabled.few) }

pub overflow_add-count_of : goal.overflow_add-count_of
overflow_add-count_of c =
    omega (arith, c.count_of.ensures, c.requires.0.low c.args.t c.args.c c.requires.2 (omega (arith, c.requires.4, c.requires.0.tabled.constructs, c.requires.0.tabled.few)))

pub returns-then-takes : goal.returns-then-takes
unfolding from_begin
returns-then-takes c = record {
  of_states = λ R σ T S.
      let own = c.count_of.ensures ∙ S.count c.args.t c.args.c c.requires.2 (omega (arith, c.requires.4, T.constructs, T.few)) in
      let taken = ap (λ (k : ℕ). taking R c.args.m σ c.args.c k (Takes c.args.c) (R.role c.args.v)) (sym (add-one _ ∙ ap suc own)) ∙ c.takes.ensures R σ T S (Takes c.args.c) in
      rw (sym (c.goes.ensures R σ T S) ∙ c.if-goes.false, sym (c.passes.ensures R σ T S) ∙ c.if-passes.false)
      (ap (Takes c.args.c) c.at.ensures ∙ sym (taken ∙ ap (λ (b : Bool). cond b (Takes c.args.c (get_or c.args.table.now (1280 + c.args.v) 0)) None) c.if-takes.true));
  numbered = (omega (arith, c.requires.4, c.requires.0.tabled.constructs, c.requires.0.tabled.few), omega (arith, c.at.ensures, c.requires.0.tabled.numbers c.args.v c.requires.3));
}

pub returns : goal.returns
unfolding from_begin
returns c = record {
  of_states = λ R σ T S.
      let own = c.count_of.ensures ∙ S.count c.args.t c.args.c c.requires.2 (omega (arith, c.requires.4, T.constructs, T.few)) in
      let taken = ap (λ (k : ℕ). taking R c.args.m σ c.args.c k (Takes c.args.c) (R.role c.args.v)) (sym (add-one _ ∙ ap suc own)) ∙ c.takes.ensures R σ T S (Takes c.args.c) in
      rw (sym (c.goes.ensures R σ T S) ∙ c.if-goes.false, sym (c.passes.ensures R σ T S) ∙ c.if-passes.false)
      (sym (taken ∙ ap (λ (b : Bool). cond b (Takes c.args.c (get_or c.args.table.now (1280 + c.args.v) 0)) None) c.if-takes.false));
  numbered = tt;
}
