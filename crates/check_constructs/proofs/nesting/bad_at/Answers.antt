-- `check_constructs::nesting::bad_at` meets its contract.
-- Assumes nothing.
use mathlib.Core.Path.{◌≡◌, refl, sym, ap, subst, ◌∙◌}
use mathlib.Core.Bool.{false, not}
use mathlib.Core.List.{List}
use Prim.Native.Nat.{ℕ, ◌+◌, ◌-◌, ◌%◌, ◌≤◌, ◌<◌}
use native.Mathlib.Omega.{arith}
use lib.ListN.{length, get_or, set}
use borrow.Author.Tests.{eq-eqb, ne_eqb}
use Rattle.lists.specs.Truth.{clash, or_right, or-false}
use Rattle.lists.specs.Range.{any, any-more}
use Rattle.lists.specs.Mask.{mask_of}
use Rattle.lists.specs.Common.{common}
use Rattle.chart.specs.Format.{Construct, decode, construct_at}
use Rattle.chart.specs.Scope.{parent_of}
use Rattle.chart.specs.Nesting.{kinds, wrongly_above, misplaced, misnested}
use Rattle.chart.specs.Refusal.{bad_alone}
use Rattle.chart.proofs.Records.{constructs-length}
use Rattle.check_constructs.specs.Kinds.{KindsFrom, KindAt, NotedTo, barred_by}
use Rattle.check_constructs.proofs.Ancestors.{fits, parents}
use Rattle.check_constructs.proofs.KindLaws.{noted_more, kinds-more, parent-most}
use Rattle.check_constructs.proofs.nesting.bad_at.Goals as goal

pub returns-then-bad_construct : goal.returns-then-bad_construct
unfolding bad_alone
returns-then-bad_construct c =
    let tested : c.bad_construct.result ≡ bad_alone (decode c.args.s.now).constructs c.args.c =
    let r = c.read-construct.ensures in cc (c.bad_construct.ensures, r.0, r.1, r.2, r.3) in
    record { value = rw (sym tested ∙ c.if-bad_construct.true); fact = λ h. absurd (clash refl h) }

-- c is in order by itself, as those below it are
pub overflow_sub-row : goal.overflow_sub-row
unfolding bad_alone
overflow_sub-row c =
    let tested : c.bad_construct.result ≡ bad_alone (decode c.args.s.now).constructs c.args.c =
    let r = c.read-construct.ensures in cc (c.bad_construct.ensures, r.0, r.1, r.2, r.3) in
    let cs : List Construct =
    (decode c.args.s.now).constructs in
    let alone : any (c.args.c + 1) (bad_alone cs) ≡ false =
    any-more c.args.c (bad_alone cs) c.requires.laid.2 (sym tested ∙ c.if-bad_construct.false) in
    let kind-read : c.read-construct.result.kind ≡ (construct_at cs c.args.c).kind =
    c.read-construct.ensures.0 in
    let kind-in : (1 ≤ c.read-construct.result.kind) × (c.read-construct.result.kind ≤ kinds) =
    let f = fits cs (c.args.c + 1) alone c.args.c (omega arith) in (omega (arith, f.least, kind-read), omega (arith, f.most, kind-read)) in
    omega (arith, kind-in.0, c.from-row.ensures)

-- what was read of the parent, and what is noted of c
pub bounds-misplaced-row : goal.bounds-misplaced-row
unfolding bad_alone
bounds-misplaced-row c =
    let tested : c.bad_construct.result ≡ bad_alone (decode c.args.s.now).constructs c.args.c =
    let r = c.read-construct.ensures in cc (c.bad_construct.ensures, r.0, r.1, r.2, r.3) in
    let cs : List Construct =
    (decode c.args.s.now).constructs in
    let alone : any (c.args.c + 1) (bad_alone cs) ≡ false =
    any-more c.args.c (bad_alone cs) c.requires.laid.2 (sym tested ∙ c.if-bad_construct.false) in
    let kind-read : c.read-construct.result.kind ≡ (construct_at cs c.args.c).kind =
    c.read-construct.ensures.0 in
    let kind-in : (1 ≤ c.read-construct.result.kind) × (c.read-construct.result.kind ≤ kinds) =
    let f = fits cs (c.args.c + 1) alone c.args.c (omega arith) in (omega (arith, f.least, kind-read), omega (arith, f.most, kind-read)) in
    let row_below : c.from-row.result - 1 < 8 =
    omega (arith, kind-in.0, kind-in.1, c.from-row.ensures) in
    row_below

pub returns-then-parent-misplaced-ne0 : goal.returns-then-parent-misplaced-ne0
unfolding misnested bad_alone parent_of
returns-then-parent-misplaced-ne0 c =
    let tested : c.bad_construct.result ≡ bad_alone (decode c.args.s.now).constructs c.args.c =
    let r = c.read-construct.ensures in cc (c.bad_construct.ensures, r.0, r.1, r.2, r.3) in
    let cs : List Construct =
    (decode c.args.s.now).constructs in
    let alone : any (c.args.c + 1) (bad_alone cs) ≡ false =
    any-more c.args.c (bad_alone cs) c.requires.laid.2 (sym tested ∙ c.if-bad_construct.false) in
    let kind-read : c.read-construct.result.kind ≡ (construct_at cs c.args.c).kind =
    c.read-construct.ensures.0 in
    let kind-in : (1 ≤ c.read-construct.result.kind) × (c.read-construct.result.kind ≤ kinds) =
    let f = fits cs (c.args.c + 1) alone c.args.c (omega arith) in (omega (arith, f.least, kind-read), omega (arith, f.most, kind-read)) in
    let row_below : c.from-row.result - 1 < 8 =
    omega (arith, kind-in.0, kind-in.1, c.from-row.ensures) in
    let row-kind : c.from-row.result - 1 + 1 ≡ c.read-construct.result.kind =
    omega (arith, kind-in.0, c.from-row.ensures) in
    let up : ℕ =
    c.from-up.result in
    let parent-read : up ≡ parent_of cs c.args.c =
    c.from-up.ensures ∙ c.read-construct.ensures.1 in
    let noted-at : (Byte : ℕ → ℕ → Type 0) (table : List ℕ) → NotedTo Byte c.args.c table → Byte (parent_of cs c.args.c) (get_or table (up % 64) 0) =
    λ Byte table T. subst (λ (p : ℕ). Byte (parent_of cs c.args.c) (get_or table (p % 64) 0)) (sym parent-read)
    (T.at (parent_of cs c.args.c) (parents cs (c.args.c + 1) alone c.args.c (omega arith))) in
    let few : c.args.chart.constructs ≤ 48 =
    c.requires.laid.0.constructs-most in
    let place-told : common (get_or c.args.own.now (up % 64) 0) (get_or c.args.misplaced.now (c.from-row.result - 1) 0)
    ≡ misplaced (construct_at cs c.args.c).kind (construct_at cs (parent_of cs c.args.c)).kind =
    let above = (construct_at cs (parent_of cs c.args.c)).kind in
    let most = parent-most cs c.args.c (omega (arith, few, constructs-length _ c.args.chart c.requires.laid.0)) alone in
    rw (noted-at (KindAt cs) c.args.own.now c.requires.noted_to.1) (c.requires.barred_table.1.entry (c.from-row.result - 1) above row_below most
    ∙ ap (λ (kind : ℕ). misplaced kind above) (row-kind ∙ kind-read)) in
    record { value = rw (sym tested ∙ c.if-bad_construct.false) (sym (or_right (any (length cs) (wrongly_above cs c.args.c)) _ (sym place-told ∙ ap not (ne_eqb _ 0 c.if-parent-misplaced-ne0.true)))); fact = λ h. absurd (clash refl h) }

pub bounds-barred-row : goal.bounds-barred-row
unfolding bad_alone
bounds-barred-row c =
    let tested : c.bad_construct.result ≡ bad_alone (decode c.args.s.now).constructs c.args.c =
    let r = c.read-construct.ensures in cc (c.bad_construct.ensures, r.0, r.1, r.2, r.3) in
    let cs : List Construct =
    (decode c.args.s.now).constructs in
    let alone : any (c.args.c + 1) (bad_alone cs) ≡ false =
    any-more c.args.c (bad_alone cs) c.requires.laid.2 (sym tested ∙ c.if-bad_construct.false) in
    let kind-read : c.read-construct.result.kind ≡ (construct_at cs c.args.c).kind =
    c.read-construct.ensures.0 in
    let kind-in : (1 ≤ c.read-construct.result.kind) × (c.read-construct.result.kind ≤ kinds) =
    let f = fits cs (c.args.c + 1) alone c.args.c (omega arith) in (omega (arith, f.least, kind-read), omega (arith, f.most, kind-read)) in
    let row_below : c.from-row.result - 1 < 8 =
    omega (arith, kind-in.0, kind-in.1, c.from-row.ensures) in
    row_below

pub bad_above-requires : goal.bad_above-requires
unfolding bad_alone parent_of
bad_above-requires c =
    let tested : c.bad_construct.result ≡ bad_alone (decode c.args.s.now).constructs c.args.c =
    let r = c.read-construct.ensures in cc (c.bad_construct.ensures, r.0, r.1, r.2, r.3) in
    let cs : List Construct =
    (decode c.args.s.now).constructs in
    let alone : any (c.args.c + 1) (bad_alone cs) ≡ false =
    any-more c.args.c (bad_alone cs) c.requires.laid.2 (sym tested ∙ c.if-bad_construct.false) in
    let kind-read : c.read-construct.result.kind ≡ (construct_at cs c.args.c).kind =
    c.read-construct.ensures.0 in
    let kind-in : (1 ≤ c.read-construct.result.kind) × (c.read-construct.result.kind ≤ kinds) =
    let f = fits cs (c.args.c + 1) alone c.args.c (omega arith) in (omega (arith, f.least, kind-read), omega (arith, f.most, kind-read)) in
    let row_below : c.from-row.result - 1 < 8 =
    omega (arith, kind-in.0, kind-in.1, c.from-row.ensures) in
    let row-kind : c.from-row.result - 1 + 1 ≡ c.read-construct.result.kind =
    omega (arith, kind-in.0, c.from-row.ensures) in
    let up : ℕ =
    c.from-up.result in
    let parent-read : up ≡ parent_of cs c.args.c =
    c.from-up.ensures ∙ c.read-construct.ensures.1 in
    let noted-at : (Byte : ℕ → ℕ → Type 0) (table : List ℕ) → NotedTo Byte c.args.c table → Byte (parent_of cs c.args.c) (get_or table (up % 64) 0) =
    λ Byte table T. subst (λ (p : ℕ). Byte (parent_of cs c.args.c) (get_or table (p % 64) 0)) (sym parent-read)
    (T.at (parent_of cs c.args.c) (parents cs (c.args.c + 1) alone c.args.c (omega arith))) in
    let barred = c.requires.barred_table.0.entry (c.from-row.result - 1) row_below ∙ ap (λ (kind : ℕ). mask_of (barred_by kind) 8) row-kind in
    record { laid = (c.requires.laid.0, c.requires.laid.1, alone); kind_value = (kind-read, barred); kinds_from = noted-at (KindsFrom cs) c.args.under.now c.requires.noted_to.0 }

pub returns : goal.returns
unfolding misnested bad_alone parent_of
returns c =
    let tested : c.bad_construct.result ≡ bad_alone (decode c.args.s.now).constructs c.args.c =
    let r = c.read-construct.ensures in cc (c.bad_construct.ensures, r.0, r.1, r.2, r.3) in
    let cs : List Construct =
    (decode c.args.s.now).constructs in
    let alone : any (c.args.c + 1) (bad_alone cs) ≡ false =
    any-more c.args.c (bad_alone cs) c.requires.laid.2 (sym tested ∙ c.if-bad_construct.false) in
    let kind-read : c.read-construct.result.kind ≡ (construct_at cs c.args.c).kind =
    c.read-construct.ensures.0 in
    let kind-in : (1 ≤ c.read-construct.result.kind) × (c.read-construct.result.kind ≤ kinds) =
    let f = fits cs (c.args.c + 1) alone c.args.c (omega arith) in (omega (arith, f.least, kind-read), omega (arith, f.most, kind-read)) in
    let row_below : c.from-row.result - 1 < 8 =
    omega (arith, kind-in.0, kind-in.1, c.from-row.ensures) in
    let row-kind : c.from-row.result - 1 + 1 ≡ c.read-construct.result.kind =
    omega (arith, kind-in.0, c.from-row.ensures) in
    let up : ℕ =
    c.from-up.result in
    let parent-read : up ≡ parent_of cs c.args.c =
    c.from-up.ensures ∙ c.read-construct.ensures.1 in
    let noted-at : (Byte : ℕ → ℕ → Type 0) (table : List ℕ) → NotedTo Byte c.args.c table → Byte (parent_of cs c.args.c) (get_or table (up % 64) 0) =
    λ Byte table T. subst (λ (p : ℕ). Byte (parent_of cs c.args.c) (get_or table (p % 64) 0)) (sym parent-read)
    (T.at (parent_of cs c.args.c) (parents cs (c.args.c + 1) alone c.args.c (omega arith))) in
    let few : c.args.chart.constructs ≤ 48 =
    c.requires.laid.0.constructs-most in
    let place-told : common (get_or c.args.own.now (up % 64) 0) (get_or c.args.misplaced.now (c.from-row.result - 1) 0)
    ≡ misplaced (construct_at cs c.args.c).kind (construct_at cs (parent_of cs c.args.c)).kind =
    let above = (construct_at cs (parent_of cs c.args.c)).kind in
    let most = parent-most cs c.args.c (omega (arith, few, constructs-length _ c.args.chart c.requires.laid.0)) alone in
    rw (noted-at (KindAt cs) c.args.own.now c.requires.noted_to.1) (c.requires.barred_table.1.entry (c.from-row.result - 1) above row_below most
    ∙ ap (λ (kind : ℕ). misplaced kind above) (row-kind ∙ kind-read)) in
    let noted-under : NotedTo (KindsFrom cs) (c.args.c + 1) (set c.args.under.now c.args.c c.within.result) =
    let d = c.args.c in
    let within = rw kind-read at c.within.ensures in
    noted_more (KindsFrom cs) (omega (arith, few, c.requires.laid.1)) c.requires.noted_to.0
    (subst (KindsFrom cs d) (sym within) (kinds-more cs d (λ q. omega (arith, few, c.requires.laid.1)) (omega (arith, kind-in.1, kind-read))
    (noted-at (KindsFrom cs) c.args.under.now c.requires.noted_to.0))) in
    let noted-own : NotedTo (KindAt cs) (c.args.c + 1) (set c.args.own.now c.args.c c.bit.result) =
    noted_more (KindAt cs) (omega (arith, few, c.requires.laid.1)) c.requires.noted_to.1 (rw kind-read at c.bit.ensures) in
    let placed = sym place-told ∙ ap not (eq-eqb _ 0 c.if-parent-misplaced-ne0.false) in
    record { value = rw (sym tested ∙ c.if-bad_construct.false, placed, or-false) c.bad_above.ensures; fact = λ h. (noted-under, noted-own) }
