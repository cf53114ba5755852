-- `answer_steps::decide::decide` meets its contract.
-- Assumes nothing.
use mathlib.Core.Path.{sym, ◌∙◌, ap}
use Prim.Native.Nat.{ℕ, ◌+◌, ◌*◌, ◌<◌}
use native.Mathlib.Omega.{arith}
use lib.ListN.{get_or}
use borrow.Author.Tests.{lt-ltb, le-ltb}
use Rattle.theory_traces.specs.Decide.{from_begin, from_end, from_node, decide}
use Rattle.answer_steps.proofs.Laws.{role-opens, role-closes, role-barrier, role-plain}
use Rattle.answer_steps.specs.Teams.{thread_at}
use Rattle.answer_steps.proofs.decide.decide.Goals as goal

pub returns-then-m-t : goal.returns-then-m-t
unfolding decide
returns-then-m-t c = record { of_states = λ R σ T S. rw (le-ltb c.args.t c.args.m c.if-m-t.true); numbered = tt }

pub overflow_add-x : goal.overflow_add-x
overflow_add-x c =
    let x = c.node_of-x.ensures in
    let low = c.requires.0.shows.byte c.args.t (omega arith) in
    omega (arith, x, low)

pub at-role-requires : goal.at-role-requires
at-role-requires c =
    let x = c.node_of-x.ensures in
    let low = c.requires.0.shows.byte c.args.t (omega arith) in
    (c.requires.0.tabled.long, omega (arith, x, low))

pub overflow_add-x-then-role-eq-OPENS : goal.overflow_add-x-then-role-eq-OPENS
overflow_add-x-then-role-eq-OPENS c =
    let x = c.node_of-x.ensures in
    let low = c.requires.0.shows.byte c.args.t (omega arith) in
    omega (arith, x, low)

pub at-requires : goal.at-requires
at-requires c =
    let x = c.node_of-x.ensures in
    let low = c.requires.0.shows.byte c.args.t (omega arith) in
    (c.requires.0.tabled.long, omega (arith, x, low))

pub from_begin-requires : goal.from_begin-requires
from_begin-requires c =
    let T = c.requires.0.tabled in
    let n = (thread_at c.args.team.now c.args.t).node in
    let low = c.requires.0.shows.byte c.args.t (omega arith) in
    let code = c.at-role.ensures ∙ ap (λ (z : ℕ). get_or c.args.table.now (1024 + z) 0) c.node_of-x.ensures in
    let number = T.number n low (omega (arith, code, c.if-role-eq-OPENS.true)) in
    let read = c.at.ensures ∙ ap (λ (z : ℕ). get_or c.args.table.now (1280 + z) 0) c.node_of-x.ensures in
    (c.requires.0, c.requires.1, omega arith, c.requires.2, omega (arith, read, number, T.constructs))

pub returns-then-role-eq-OPENS : goal.returns-then-role-eq-OPENS
unfolding decide from_node
returns-then-role-eq-OPENS c = record {
  of_states = λ R σ T S.
      let x = c.node_of-x.ensures in
      let less : c.args.t < 8 = omega arith in
      let low = S.byte c.args.t less in
      let role = ap R.role (sym (x ∙ S.node c.args.t less)) ∙ T.role _ (omega (arith, x, low)) in
      rw (lt-ltb c.args.t c.args.m (omega arith), role ∙ role-opens _ _ (sym c.at-role.ensures ∙ c.if-role-eq-OPENS.true)) (c.from_begin.ensures.of_states R σ T S ∙ ap (from_begin R c.args.m σ c.args.t c.args.v) c.at.ensures);
  numbered = c.from_begin.ensures.numbered;
}

pub overflow_add-x-then-role-eq-CLOSES : goal.overflow_add-x-then-role-eq-CLOSES
overflow_add-x-then-role-eq-CLOSES c =
    let x = c.node_of-x.ensures in
    let low = c.requires.0.shows.byte c.args.t (omega arith) in
    omega (arith, x, low)

pub at-requires-then-role-eq-CLOSES : goal.at-requires-then-role-eq-CLOSES
at-requires-then-role-eq-CLOSES c =
    let x = c.node_of-x.ensures in
    let low = c.requires.0.shows.byte c.args.t (omega arith) in
    (c.requires.0.tabled.long, omega (arith, x, low))

pub from_end-requires : goal.from_end-requires
from_end-requires c =
    let T = c.requires.0.tabled in
    let n = (thread_at c.args.team.now c.args.t).node in
    let low = c.requires.0.shows.byte c.args.t (omega arith) in
    let code = c.at-role.ensures ∙ ap (λ (z : ℕ). get_or c.args.table.now (1024 + z) 0) c.node_of-x.ensures in
    let number = T.number n low (omega (arith, code, c.if-role-eq-CLOSES.true)) in
    let read = c.at-then-role-eq-CLOSES.ensures ∙ ap (λ (z : ℕ). get_or c.args.table.now (1280 + z) 0) c.node_of-x.ensures in
    (c.requires.0, c.requires.1, omega arith, c.requires.2, omega (arith, read, number, T.constructs))

pub returns-then-role-eq-CLOSES : goal.returns-then-role-eq-CLOSES
unfolding decide from_node
returns-then-role-eq-CLOSES c = record {
  of_states = λ R σ T S.
      let x = c.node_of-x.ensures in
      let less : c.args.t < 8 = omega arith in
      let low = S.byte c.args.t less in
      let role = ap R.role (sym (x ∙ S.node c.args.t less)) ∙ T.role _ (omega (arith, x, low)) in
      rw (lt-ltb c.args.t c.args.m (omega arith), role ∙ role-closes _ _ (sym c.at-role.ensures ∙ c.if-role-eq-CLOSES.true)) (c.from_end.ensures.of_states R σ T S ∙ ap (from_end R c.args.m σ c.args.t c.args.v) c.at-then-role-eq-CLOSES.ensures);
  numbered = c.from_end.ensures.numbered;
}

pub returns-then-role-eq-BARRIER : goal.returns-then-role-eq-BARRIER
unfolding decide from_node
returns-then-role-eq-BARRIER c = record {
  of_states = λ R σ T S.
      let x = c.node_of-x.ensures in
      let less : c.args.t < 8 = omega arith in
      let low = S.byte c.args.t less in
      let role = ap R.role (sym (x ∙ S.node c.args.t less)) ∙ T.role _ (omega (arith, x, low)) in
      rw (lt-ltb c.args.t c.args.m (omega arith), role ∙ role-barrier _ _ (sym c.at-role.ensures ∙ c.if-role-eq-BARRIER.true));
  numbered = tt;
}

pub leads-requires : goal.leads-requires
leads-requires c =
    let x = c.node_of-x.ensures in
    let low = c.requires.0.shows.byte c.args.t (omega arith) in
    (c.requires.0.tabled.long, omega (arith, x, low), c.requires.2)

pub returns-then-leads : goal.returns-then-leads
unfolding decide from_node
returns-then-leads c = record {
  of_states = λ R σ T S.
      let x = c.node_of-x.ensures in
      let less : c.args.t < 8 = omega arith in
      let low = S.byte c.args.t less in
      let role = ap R.role (sym (x ∙ S.node c.args.t less)) ∙ T.role _ (omega (arith, x, low)) in
      let edge = ap (λ (n : ℕ). R.edge n c.args.v) (sym (x ∙ S.node c.args.t less)) ∙ T.edge _ c.args.v (omega (arith, x, low)) c.requires.2 ∙ sym c.leads.ensures in
      rw (lt-ltb c.args.t c.args.m (omega arith), role ∙ role-plain _ _ (λ z. c.if-role-eq-BARRIER.false (c.at-role.ensures ∙ z)) (λ z. c.if-role-eq-OPENS.false (c.at-role.ensures ∙ z)) (λ z. c.if-role-eq-CLOSES.false (c.at-role.ensures ∙ z)), edge ∙ c.if-leads.true);
  numbered = tt;
}

pub returns : goal.returns
unfolding decide from_node
returns c = record {
  of_states = λ R σ T S.
      let x = c.node_of-x.ensures in
      let less : c.args.t < 8 = omega arith in
      let low = S.byte c.args.t less in
      let role = ap R.role (sym (x ∙ S.node c.args.t less)) ∙ T.role _ (omega (arith, x, low)) in
      let edge = ap (λ (n : ℕ). R.edge n c.args.v) (sym (x ∙ S.node c.args.t less)) ∙ T.edge _ c.args.v (omega (arith, x, low)) c.requires.2 ∙ sym c.leads.ensures in
      rw (lt-ltb c.args.t c.args.m (omega arith), role ∙ role-plain _ _ (λ z. c.if-role-eq-BARRIER.false (c.at-role.ensures ∙ z)) (λ z. c.if-role-eq-OPENS.false (c.at-role.ensures ∙ z)) (λ z. c.if-role-eq-CLOSES.false (c.at-role.ensures ∙ z)), edge ∙ c.if-leads.false);
  numbered = tt;
}
