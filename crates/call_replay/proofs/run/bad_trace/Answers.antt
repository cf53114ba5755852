-- `call_replay::run::bad_trace` meets its contract.
-- Assumes nothing.
use borrow.Author.Tests.{eq-eqb, ne_eqb}
use Rattle.theory_traces.specs.Call.{bad_trace}
use Rattle.call_replay.proofs.run.bad_trace.Goals as goal

pub returns-then-trace-eq1 : goal.returns-then-trace-eq1
unfolding bad_trace
returns-then-trace-eq1 c = rw (eq-eqb _ _ c.if-trace-eq1.true)

pub returns-then-m-eq0 : goal.returns-then-m-eq0
unfolding bad_trace
returns-then-m-eq0 c = rw (ne_eqb _ _ c.if-trace-eq1.false, eq-eqb _ _ c.if-m-eq0.true)

pub returns : goal.returns
unfolding bad_trace
returns c = rw (ne_eqb _ _ c.if-trace-eq1.false, ne_eqb _ _ c.if-m-eq0.false)
