-- `answer_steps::decide::takes` meets its contract.
-- Assumes nothing.
use mathlib.Core.Path.{◌≡◌, refl, sym, ◌∙◌, ap}
use mathlib.Core.Bool.{Bool, cond}
use Prim.Native.Nat.{ℕ, ◌+◌, ◌≤◌, ◌<◌}
use native.Mathlib.Omega.{arith}
use lib.ListN.{get_or}
use borrow.Author.Tests.{eq-eqb, ne_eqb}
use Rattle.theory_traces.specs.Tests.{is_untaken}
use Rattle.theory_traces.specs.Decide.{taking}
use Rattle.theory_traces.specs.declared.Effect.TheVariants.{None}
use Rattle.answer_steps.proofs.Laws.{role-opens, role-else, sections-test, section-test, in_table}
use Rattle.answer_steps.proofs.decide.takes.Goals as goal

pub returns-then-at-ne-OPENS : goal.returns-then-at-ne-OPENS
unfolding taking
returns-then-at-ne-OPENS c = λ R σ T S effect. rw (T.role _ c.requires.3) (role-else (λ r. taking R c.args.m σ c.args.c c.args.instance effect r ≡ None) _ _ (λ z. c.if-at-ne-OPENS.true (c.at.ensures ∙ z)) refl refl refl)

pub returns-then-at-from : goal.returns-then-at-from
unfolding taking
returns-then-at-from c = λ R σ T S effect. rw (T.role _ c.requires.3 ∙ role-opens _ _ (sym c.at.ensures ∙ c.if-at-ne-OPENS.false), T.kind _ (in_table T c.requires.2), sections-test, ne_eqb _ _ (λ z. c.if-at-from.true (c.at-2.ensures ∙ z ∙ sym c.from.ensures)))

pub returns-then-at-from-2 : goal.returns-then-at-from-2
unfolding taking
returns-then-at-from-2 c =
    λ R σ T S effect.
    let lc = in_table T c.requires.2 in
    let role = T.role _ c.requires.3 ∙ role-opens _ _ (sym c.at.ensures ∙ c.if-at-ne-OPENS.false) in
    let code : 2 ≤ get_or c.args.table.now (1024 + c.args.v) 0 = omega (arith, c.at.ensures, c.if-at-ne-OPENS.false) in
    let lx : get_or c.args.table.now (1280 + c.args.v) 0 < R.constructs = T.number c.args.v c.requires.3 code in
    let x = c.at-x.ensures in
    let kind = c.at-3.ensures ∙ ap (λ (z : ℕ). get_or c.args.table.now (1792 + z) 0) x in
    rw (role, T.kind _ lc, sections-test, eq-eqb _ _ (sym c.at-2.ensures ∙ c.if-at-from.false ∙ c.from.ensures), T.kind _ lx, section-test, ne_eqb _ _ (λ z. c.if-at-from-2.true (kind ∙ z ∙ sym c.from-2.ensures)))

pub returns-then-at-c : goal.returns-then-at-c
unfolding taking
returns-then-at-c c =
    λ R σ T S effect.
    let lc = in_table T c.requires.2 in
    let role = T.role _ c.requires.3 ∙ role-opens _ _ (sym c.at.ensures ∙ c.if-at-ne-OPENS.false) in
    let code : 2 ≤ get_or c.args.table.now (1024 + c.args.v) 0 = omega (arith, c.at.ensures, c.if-at-ne-OPENS.false) in
    let lx : get_or c.args.table.now (1280 + c.args.v) 0 < R.constructs = T.number c.args.v c.requires.3 code in
    let x = c.at-x.ensures in
    let kind = c.at-3.ensures ∙ ap (λ (z : ℕ). get_or c.args.table.now (1792 + z) 0) x in
    let parent = c.at-4.ensures ∙ ap (λ (z : ℕ). get_or c.args.table.now (1840 + z) 0) x in
    rw (role, T.kind _ lc, sections-test, eq-eqb _ _ (sym c.at-2.ensures ∙ c.if-at-from.false ∙ c.from.ensures), T.kind _ lx, section-test, eq-eqb _ _ (sym kind ∙ c.if-at-from-2.false ∙ c.from-2.ensures), T.parent _ lx, ne_eqb _ _ (λ z. c.if-at-c.true (parent ∙ z)))

pub returns : goal.returns
unfolding taking
returns c =
    λ R σ T S effect.
    let lc = in_table T c.requires.2 in
    let role = T.role _ c.requires.3 ∙ role-opens _ _ (sym c.at.ensures ∙ c.if-at-ne-OPENS.false) in
    let code : 2 ≤ get_or c.args.table.now (1024 + c.args.v) 0 = omega (arith, c.at.ensures, c.if-at-ne-OPENS.false) in
    let lx : get_or c.args.table.now (1280 + c.args.v) 0 < R.constructs = T.number c.args.v c.requires.3 code in
    let x = c.at-x.ensures in
    let kind = c.at-3.ensures ∙ ap (λ (z : ℕ). get_or c.args.table.now (1792 + z) 0) x in
    let parent = c.at-4.ensures ∙ ap (λ (z : ℕ). get_or c.args.table.now (1840 + z) 0) x in
    let test = c.is_untaken.ensures σ S ∙ ap (is_untaken c.args.m σ c.args.c c.args.instance) x in
    rw (role, T.kind _ lc, sections-test, eq-eqb _ _ (sym c.at-2.ensures ∙ c.if-at-from.false ∙ c.from.ensures), T.kind _ lx, section-test, eq-eqb _ _ (sym kind ∙ c.if-at-from-2.false ∙ c.from-2.ensures), T.parent _ lx, eq-eqb _ _ (sym parent ∙ c.if-at-c.false))
    (ap (λ (b : Bool). cond b (effect (get_or c.args.table.now (1280 + c.args.v) 0)) None) (sym test))
