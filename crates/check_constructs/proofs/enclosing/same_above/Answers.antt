-- `check_constructs::enclosing::same_above` meets its contract.
-- Assumes nothing.
use mathlib.Core.Path.{◌≡◌, sym, subst, ◌∙◌}
use mathlib.Core.Logic.{inl, inr}
use mathlib.Core.Bool.{false}
use Prim.Native.Nat.{ℕ, ◌+◌, ◌<◌}
use native.Mathlib.Omega.{arith}
use borrow.Author.Tests.{eq-eqb, ne_eqb}
use Rattle.chart.specs.Scope.{parallel_byte, parent_of}
use Rattle.chart.specs.Nested.{is_parallel}
use Rattle.chart.specs.Format.{decode, construct_at}
use Rattle.chart.proofs.Records.{constructs-length}
use Rattle.check_constructs.proofs.Ancestors.{Walked, against, parents, place-below, walk_start, walk_more, walk-found, walk_end, height, height-falls}
use Rattle.check_constructs.proofs.enclosing.same_above.Goals as goal

pub read-inner-requires : goal.read-inner-requires
read-inner-requires c = (c.requires.laid.0, c.requires.laid.1)

pub loop-p-init : goal.loop-p-init
unfolding parent_of
loop-p-init c =
    let cs = (decode c.args.s.now).constructs in
    subst (Walked cs c.args.c) (sym c.read-inner.ensures.1) (walk_start cs c.requires.laid.2)

pub read-outer-requires : goal.read-outer-requires
read-outer-requires c =
    let cs = (decode c.args.s.now).constructs in
    (c.requires.laid.0, omega (arith, place-below cs c.requires.laid.2 c.loop-p.invariant c.loop-p-test.true, c.requires.laid.1, c.from.ensures))

pub returns-then-outer-eq-PARALLEL : goal.returns-then-outer-eq-PARALLEL
unfolding is_parallel
returns-then-outer-eq-PARALLEL c =
    let kind-read : c.read-outer.result.kind ≡ (construct_at (decode c.args.s.now).constructs c.loop-p.p).kind =
    cc (c.read-outer.ensures.0, c.from.ensures) in
    sym (walk_end (decode c.args.s.now).constructs c.requires.laid.2 c.loop-p.invariant (inr (eq-eqb _ parallel_byte (sym kind-read ∙ c.if-outer-eq-PARALLEL.true))))

pub returns-then-same_name : goal.returns-then-same_name
unfolding is_parallel
returns-then-same_name c =
    let kind-read : c.read-outer.result.kind ≡ (construct_at (decode c.args.s.now).constructs c.loop-p.p).kind =
    cc (c.read-outer.ensures.0, c.from.ensures) in
    let within : is_parallel (decode c.args.s.now).constructs c.loop-p.p ≡ false =
    ne_eqb _ parallel_byte (λ q. c.if-outer-eq-PARALLEL.false (kind-read ∙ q)) in
    let tested : c.same_name.result ≡ against (decode c.args.s.now).constructs c.args.c c.loop-p.p =
    let i = c.read-inner.ensures in
    cc (c.same_name.ensures, c.requires.c_value, i.2, c.read-outer.ensures.0, c.read-outer.ensures.2, c.from.ensures) in
    let cs = (decode c.args.s.now).constructs in
    let n = constructs-length _ c.args.chart c.requires.laid.0 in
    sym (walk-found cs c.requires.laid.2 (omega (arith, n, c.requires.laid.1)) c.loop-p.invariant c.loop-p-test.true within (sym tested ∙ c.if-same_name.true))

pub loop-p-smaller : goal.loop-p-smaller
unfolding parent_of
loop-p-smaller c =
    let parent-read : c.read-outer.result.parent ≡ (construct_at (decode c.args.s.now).constructs c.loop-p.p).parent =
    cc (c.read-outer.ensures.1, c.from.ensures) in
    let cs = (decode c.args.s.now).constructs in
    subst (λ (q : ℕ). height q < height c.loop-p.p) (sym parent-read)
    (height-falls c.loop-p-test.true (parents cs (c.args.c + 1) c.requires.laid.2 c.loop-p.p (omega (arith, place-below cs c.requires.laid.2 c.loop-p.invariant c.loop-p-test.true))))

pub loop-p-preserved : goal.loop-p-preserved
unfolding parent_of is_parallel
loop-p-preserved c =
    let kind-read : c.read-outer.result.kind ≡ (construct_at (decode c.args.s.now).constructs c.loop-p.p).kind =
    cc (c.read-outer.ensures.0, c.from.ensures) in
    let parent-read : c.read-outer.result.parent ≡ (construct_at (decode c.args.s.now).constructs c.loop-p.p).parent =
    cc (c.read-outer.ensures.1, c.from.ensures) in
    let within : is_parallel (decode c.args.s.now).constructs c.loop-p.p ≡ false =
    ne_eqb _ parallel_byte (λ q. c.if-outer-eq-PARALLEL.false (kind-read ∙ q)) in
    let tested : c.same_name.result ≡ against (decode c.args.s.now).constructs c.args.c c.loop-p.p =
    let i = c.read-inner.ensures in
    cc (c.same_name.ensures, c.requires.c_value, i.2, c.read-outer.ensures.0, c.read-outer.ensures.2, c.from.ensures) in
    let cs = (decode c.args.s.now).constructs in
    subst (Walked cs c.args.c) (sym parent-read)
    (walk_more cs c.requires.laid.2 c.loop-p.invariant c.loop-p-test.true within (sym tested ∙ c.if-same_name.false))

pub returns : goal.returns
returns c =
    sym (walk_end (decode c.args.s.now).constructs c.requires.laid.2 c.loop-p.invariant (inl c.loop-p-test.false))
