-- `call_replay::feed::gathered` meets its contract.
-- Assumes nothing.
use mathlib.Core.Path.{◌≡◌, refl, sym, ◌∙◌, ap}
use mathlib.Core.Bool.{true}
use Prim.Native.Nat.{ℕ}
use native.Mathlib.Omega.{arith}
use lib.Dec.{eqb}
use borrow.Author.Tests.{eq-eqb, ne_eqb}
use Rattle.lists.specs.Range.{every}
use Rattle.theory_paths.specs.Decide.{no_barrier}
use Rattle.theory_traces.specs.Replay.{gathered}
use Rattle.answer_steps.proofs.Laws.{role-barrier, role-open}
use Rattle.call_replay.proofs.feed.gathered.Goals as goal

pub overflow_add-x : goal.overflow_add-x
overflow_add-x c = omega (arith, c.node_of-x.ensures, c.requires.3.byte 0 (omega arith))

pub at-requires : goal.at-requires
at-requires c = (c.requires.2.long, omega (arith, c.node_of-x.ensures, c.requires.3.byte 0 (omega arith)))

pub returns-then-at-ne-BARRIER : goal.returns-then-at-ne-BARRIER
unfolding gathered
returns-then-at-ne-BARRIER c =
    λ R σ T S.
    let x = c.node_of-x.ensures in
    let node = x ∙ S.node 0 (omega arith) in
    let role = ap R.role (sym node) ∙ T.role _ (omega (arith, x, S.byte 0 (omega arith))) in
    rw (role, role-open (λ r. no_barrier r ≡ true) _ _ (λ z. c.if-at-ne-BARRIER.true (c.at.ensures ∙ z)) refl refl refl)

pub at-requires-2 : goal.at-requires-2
at-requires-2 c = (c.requires.2.long, omega arith)

pub returns-then-x-at : goal.returns-then-x-at
unfolding gathered
returns-then-x-at c =
    λ R σ T S.
    let x = c.node_of-x.ensures in
    let node = x ∙ S.node 0 (omega arith) in
    let role = ap R.role (sym node) ∙ T.role _ (omega (arith, x, S.byte 0 (omega arith))) in
    rw (role ∙ role-barrier _ _ (sym c.at.ensures ∙ c.if-at-ne-BARRIER.false), eq-eqb _ _ (sym node ∙ c.if-x-at.true ∙ c.at-2.ensures ∙ sym T.finish))

pub returns : goal.returns
unfolding gathered
returns c =
    λ R σ T S.
    let x = c.node_of-x.ensures in
    let node = x ∙ S.node 0 (omega arith) in
    let role = ap R.role (sym node) ∙ T.role _ (omega (arith, x, S.byte 0 (omega arith))) in
    rw (role ∙ role-barrier _ _ (sym c.at.ensures ∙ c.if-at-ne-BARRIER.false), ne_eqb _ _ (λ z. c.if-x-at.false (node ∙ z ∙ T.finish ∙ sym c.at-2.ensures)))
    (c.all_at.ensures σ S ∙ ap (λ (y : ℕ). every c.args.m (λ k. eqb (σ.node k) y)) node)
