-- `check_constructs::nesting::bad_nesting` meets its contract.
-- Assumes nothing.
use mathlib.Core.Path.{◌≡◌, refl, sym, ap, ◌∙◌}
use mathlib.Core.List.{List}
use mathlib.Core.Bool.{◌||◌}
use Prim.Native.Nat.{ℕ, ◌≤◌}
use native.Mathlib.Omega.{arith}
use lib.ListN.{length}
use Rattle.lists.specs.Range.{every, any, at-any, any-more, any-or}
use Rattle.lists.specs.Truth.{or-neither}
use Rattle.chart.specs.Format.{outside, decode}
use Rattle.chart.specs.Nesting.{misplaced, misnested}
use Rattle.chart.specs.Refusal.{bad_alone}
use Rattle.chart.proofs.Records.{constructs-length}
use Rattle.check_constructs.specs.Kinds.{KindsFrom, KindAt}
use Rattle.check_constructs.proofs.KindLaws.{noted-none, kinds-none, kind-none}
use Rattle.check_constructs.proofs.Table.{places, placed}
use Rattle.check_constructs.proofs.nesting.bad_nesting.Invariants.{bad}
use Rattle.check_constructs.proofs.nesting.bad_nesting.Goals as goal

-- row 6 of the constructs, one by one
row : (s : List ℕ) →
    let cs = (decode s).constructs in
    any (length cs) (bad s) ≡ (any (length cs) (bad_alone cs) || any (length cs) (misnested cs))
row s = let cs = (decode s).constructs in any-or (length cs) (bad_alone cs) (misnested cs)

pub loop-c-init : goal.loop-c-init
unfolding any
loop-c-init c =
    let cs = (decode c.args.s.now).constructs in
    let few : length cs ≤ outside = omega (arith, constructs-length _ c.args.chart c.requires.0, c.requires.0.constructs-most) in
    (omega arith, refl, noted-none (KindsFrom cs) (kinds-none cs), noted-none (KindAt cs) (kind-none cs few))

pub bad_at-requires : goal.bad_at-requires
unfolding every places misplaced
bad_at-requires c =
    let cs = (decode c.args.s.now).constructs in
    let k = c.loop-c.c in
    let alone = (or-neither (any k (bad_alone cs)) _ (sym (any-or k (bad_alone cs) (misnested cs)) ∙ c.loop-c.invariant.1)).0 in
    record { laid = (c.requires.0, omega arith, alone); barred_table = (c.barred_kinds-barred.ensures, placed _ refl refl); noted_to = (c.loop-c.invariant.2, c.loop-c.invariant.3) }

pub returns-then-bad_at : goal.returns-then-bad_at
returns-then-bad_at c =
    let answered : c.bad_at.result ≡ bad c.args.s.now c.loop-c.c =
    c.bad_at.ensures.value in
    let s = c.args.s.now in
    sym (sym (row s) ∙ at-any _ (bad s) c.loop-c.c (omega (arith, constructs-length _ c.args.chart c.requires.0)) (sym answered ∙ c.if-bad_at.true))

pub loop-c-preserved : goal.loop-c-preserved
loop-c-preserved c =
    let answered : c.bad_at.result ≡ bad c.args.s.now c.loop-c.c =
    c.bad_at.ensures.value in
    let noted = c.bad_at.ensures.fact c.if-bad_at.false in
    (omega arith, any-more c.loop-c.c _ c.loop-c.invariant.1 (sym answered ∙ c.if-bad_at.false), noted.0, noted.1)

pub returns : goal.returns
returns c =
    let s = c.args.s.now in
    let q : length (decode s).constructs ≡ c.loop-c.c = omega (arith, constructs-length _ c.args.chart c.requires.0) in
    sym (sym (row s) ∙ ap (λ (k : ℕ). any k (bad s)) q ∙ c.loop-c.invariant.1)
