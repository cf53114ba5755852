-- `answer_steps::decide::from_end` meets its contract.
-- Assumes nothing.
use mathlib.Core.Path.{sym, ◌∙◌, ap}
use mathlib.Core.Bool.{Bool, cond}
use Prim.Native.Nat.{ℕ, ◌+◌}
use native.Mathlib.Omega.{arith}
use lib.ListN.{get_or}
use Rattle.theory_traces.specs.Decide.{taking, from_end}
use Rattle.theory_traces.specs.declared.Effect.TheVariants.{None, TakesNext}
use Rattle.answer_steps.proofs.decide.from_end.Goals as goal

pub returns-then-goes : goal.returns-then-goes
unfolding from_end
returns-then-goes c = record { of_states = λ R σ T S. rw (sym (c.goes.ensures R σ T S) ∙ c.if-goes.true); numbered = tt }

pub returns-then-again : goal.returns-then-again
unfolding from_end
returns-then-again c = record { of_states = λ R σ T S. rw (sym (c.goes.ensures R σ T S) ∙ c.if-goes.false, sym (c.again.ensures R T) ∙ c.if-again.true); numbered = tt }

pub returns-then-takes : goal.returns-then-takes
unfolding from_end
returns-then-takes c = record {
  of_states = λ R σ T S.
      let own = c.count_of.ensures ∙ S.count c.args.t c.args.c c.requires.2 (omega (arith, c.requires.4, T.constructs, T.few)) in
      let taken = ap (λ (k : ℕ). taking R c.args.m σ c.args.c k (TakesNext c.args.c) (R.role c.args.v)) (sym own) ∙ c.takes.ensures R σ T S (TakesNext c.args.c) in
      rw (sym (c.goes.ensures R σ T S) ∙ c.if-goes.false, sym (c.again.ensures R T) ∙ c.if-again.false)
      (ap (TakesNext c.args.c) c.at.ensures ∙ sym (taken ∙ ap (λ (b : Bool). cond b (TakesNext c.args.c (get_or c.args.table.now (1280 + c.args.v) 0)) None) c.if-takes.true));
  numbered = (omega (arith, c.requires.4, c.requires.0.tabled.constructs, c.requires.0.tabled.few), omega (arith, c.at.ensures, c.requires.0.tabled.numbers c.args.v c.requires.3));
}

pub returns : goal.returns
unfolding from_end
returns c = record {
  of_states = λ R σ T S.
      let own = c.count_of.ensures ∙ S.count c.args.t c.args.c c.requires.2 (omega (arith, c.requires.4, T.constructs, T.few)) in
      let taken = ap (λ (k : ℕ). taking R c.args.m σ c.args.c k (TakesNext c.args.c) (R.role c.args.v)) (sym own) ∙ c.takes.ensures R σ T S (TakesNext c.args.c) in
      rw (sym (c.goes.ensures R σ T S) ∙ c.if-goes.false, sym (c.again.ensures R T) ∙ c.if-again.false)
      (sym (taken ∙ ap (λ (b : Bool). cond b (TakesNext c.args.c (get_or c.args.table.now (1280 + c.args.v) 0)) None) c.if-takes.false));
  numbered = tt;
}
