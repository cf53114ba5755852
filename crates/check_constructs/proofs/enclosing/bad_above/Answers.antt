-- `check_constructs::enclosing::bad_above` meets its contract.
-- Assumes nothing.
use mathlib.Core.Bool.{false}
use mathlib.Core.Path.{◌≡◌, sym, ap, subst, ◌∙◌}
use Prim.Native.Nat.{ℕ, ◌^◌}
use native.Mathlib.Omega.{arith}
use lib.Bits.{bit_and}
use borrow.Author.Tests.{eq-eqb, ne_eqb}
use Rattle.lists.specs.Mask.{Has, mask_of, has-none, has-own}
use Rattle.lists.specs.Common.{common, both-and}
use Rattle.chart.specs.Format.{decode, construct_at}
use Rattle.chart.specs.Scope.{critical_byte}
use Rattle.chart.proofs.Records.{constructs-length}
use Rattle.check_constructs.specs.Kinds.{barred_by}
use Rattle.check_constructs.proofs.KindLaws.{barred-found, names-left}
use Rattle.check_constructs.proofs.enclosing.bad_above.Goals as goal

pub returns-then-above-barred-ne0 : goal.returns-then-above-barred-ne0
returns-then-above-barred-ne0 c =
    let barred-is : c.args.barred ≡ mask_of (barred_by (construct_at (decode c.args.s.now).constructs c.args.c).kind) 8 =
    c.requires.kind_value.1 ∙ ap (λ (kind : ℕ). mask_of (barred_by kind) 8) c.requires.kind_value.0 in
    let l = constructs-length _ c.args.chart c.requires.laid.0 in
    sym (barred-found _ c.args.c c.requires.laid.2 c.requires.kinds_from (omega (arith, l, c.requires.laid.1)) (rw (← barred-is, ne_eqb _ 0 c.if-above-barred-ne0.true)))

pub returns-then-above-bit-eq0 : goal.returns-then-above-bit-eq0
returns-then-above-bit-eq0 c =
    let barred-is : c.args.barred ≡ mask_of (barred_by (construct_at (decode c.args.s.now).constructs c.args.c).kind) 8 =
    c.requires.kind_value.1 ∙ ap (λ (kind : ℕ). mask_of (barred_by kind) 8) c.requires.kind_value.0 in
    let kinds-pass : common c.args.above (mask_of (barred_by (construct_at (decode c.args.s.now).constructs c.args.c).kind) 8) ≡ false =
    rw (← barred-is, eq-eqb _ 0 c.if-above-barred-ne0.false) in
    let none : bit_and c.args.above (2 ^ critical_byte) ≡ 0 = ap (bit_and c.args.above) (sym c.bit.ensures) ∙ c.if-above-bit-eq0.true in
    sym (names-left _ c.args.c c.requires.laid.2 c.requires.kinds_from kinds-pass
    (λ k h. has-none critical_byte (subst (λ (m : ℕ). Has m critical_byte) none (both-and _ (2 ^ critical_byte) critical_byte h (has-own critical_byte)))))

pub returns-then-kind-ne-CRITICAL : goal.returns-then-kind-ne-CRITICAL
returns-then-kind-ne-CRITICAL c =
    let barred-is : c.args.barred ≡ mask_of (barred_by (construct_at (decode c.args.s.now).constructs c.args.c).kind) 8 =
    c.requires.kind_value.1 ∙ ap (λ (kind : ℕ). mask_of (barred_by kind) 8) c.requires.kind_value.0 in
    let kinds-pass : common c.args.above (mask_of (barred_by (construct_at (decode c.args.s.now).constructs c.args.c).kind) 8) ≡ false =
    rw (← barred-is, eq-eqb _ 0 c.if-above-barred-ne0.false) in
    sym (names-left _ c.args.c c.requires.laid.2 c.requires.kinds_from kinds-pass (λ k h. c.if-kind-ne-CRITICAL.true (c.requires.kind_value.0 ∙ k)))

pub same_above-requires : goal.same_above-requires
same_above-requires c =
    record { laid = c.requires.laid; c_value = sym c.requires.kind_value.0 ∙ c.if-kind-ne-CRITICAL.false }

pub returns : goal.returns
returns c = c.same_above.ensures
