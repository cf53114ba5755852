-- `block`, `item` and `braced`, which call each other, meet their contracts: what each tells is what the grammar reads, whatever fuel reads it.
-- Assumes nothing.
use Rattle.std.proofs.Common.{◌≡◌, Ok, Err, rules, sym, ◌∙◌, ap, List, ℕ, ◌+◌, pred, get_or, arith}
use Rattle.theory_listing.specs.Grammar.{block_of, letter_kind}
use Rattle.call_listing.specs.declared.reader.Extent.{Extent}
use Rattle.call_listing.specs.Extent.{Told, extent_of, braced_extent, onward, added_to, closed_at, followed_at}
use Rattle.call_listing.proofs.Bounds.{within-read, beyond-read}
use Rattle.call_listing.proofs.Steps.{followed_after, braced-short, braced-other, braced-deep, braced-open, item-plain, item-barrier, item-loop, item-branch, item-other, item-around, block-end, block-brace, block_more, add_none, add-more, add_start}
use Rattle.call_listing.proofs.reader.+reader.Goals as goal
use Rattle.call_listing.proofs.reader.+reader.Goals.{item-then-letter-eq-PLAIN-via-then-letter-eq-PLAIN, item-then-letter-eq-PLAIN-via-else-letter-eq-PLAIN+then-letter-eq-BARRIER}

abbrev given : Extent → Told
given read = Ok read

-- the brace after a block
abbrev close : List ℕ → Told → Told
close s told = onward told (closed_at s)

-- a branch's second block after its first
abbrev second : ℕ → List ℕ → ℕ → Told → Told
second f s depth told = onward told (λ one. added_to (one.nodes + 2) one.constructs (braced_extent f s depth one.next))

pub block-loop-here-init : goal.block-loop-here-init
block-loop-here-init t c = (omega arith, omega arith, omega arith, omega arith, λ f h. (f, h, add_start _))

pub block-returns-then-s-here-eq-CLOSE-clause-by_index : goal.block-returns-then-s-here-eq-CLOSE-clause-by_index
block-returns-then-s-here-eq-CLOSE-clause-by_index t c f h =
    let l = c.loop-here in
    let v = l.invariant.4 f h in
    let brace = block-brace c.args.s.now c.args.depth l.here v.0 (omega (arith, v.1)) (omega arith) c.if-s-here-eq-CLOSE.true in
    add_none l.here l.nodes l.constructs _ _ v.2 brace

pub block-returns-in_err-one-clause-by_index : goal.block-returns-in_err-one-clause-by_index
block-returns-in_err-one-clause-by_index t c f h =
    let same : c.from_residual.result ≡ Err c.in_err-one.field-0.0 = search rules in
    let l = c.loop-here in
    let v = l.invariant.4 f h in
    let read = sym (c.item.ensures.by_index (pred v.0) (omega (arith, v.1))) ∙ c.in_err-one.was in
    let rest = block_more c.args.s.now c.args.depth l.here v.0 (omega (arith, v.1)) (omega arith) c.if-s-here-eq-CLOSE.false read in
    same ∙ sym (v.2 ∙ ap (added_to l.nodes l.constructs) rest)

pub block-loop-here-preserved : goal.block-loop-here-preserved
block-loop-here-preserved t c =
    let l = c.loop-here in
    let one = c.in_ok-one.one in
    let w = within-read _ _ c.in_ok-one.was c.item.ensures.within.0 in
    let b = beyond-read _ c.in_ok-one.was c.item.ensures.within.1 in (
      omega (arith, b),
      omega (arith, w.0),
      omega (arith, w.1),
      w.2,
      λ f h.
          let v = l.invariant.4 f h in
          let read = sym (c.item.ensures.by_index (pred v.0) (omega (arith, v.1))) ∙ c.in_ok-one.was in
          let rest = block_more c.args.s.now c.args.depth l.here v.0 (omega (arith, v.1)) (omega arith) c.if-s-here-eq-CLOSE.false read in (
            pred v.0,
            omega (arith, v.1, b),
            v.2
                ∙ ap (added_to l.nodes l.constructs) rest
                ∙ add-more l.nodes l.constructs one.nodes one.constructs (extent_of (block_of (pred v.0) c.args.s.now c.args.depth one.next)),
          ),
    )

pub block-returns-clause-by_index : goal.block-returns-clause-by_index
block-returns-clause-by_index t c f h =
    let l = c.loop-here in
    let v = l.invariant.4 f h in
    let over = block-end c.args.s.now c.args.depth l.here v.0 (omega (arith, v.1)) (omega arith) in
    add_none l.here l.nodes l.constructs _ _ v.2 over

pub braced-returns-then-s-at-clause-by_index : goal.braced-returns-then-s-at-clause-by_index
braced-returns-then-s-at-clause-by_index t c f h = braced-short _ _ _ _ c.if-s-at.true

pub braced-returns-then-s-at-ne-OPEN-clause-by_index : goal.braced-returns-then-s-at-ne-OPEN-clause-by_index
braced-returns-then-s-at-ne-OPEN-clause-by_index t c f h = braced-other _ _ _ _ (omega arith) c.if-s-at-ne-OPEN.true

pub braced-returns-then-depth-eq0-clause-by_index : goal.braced-returns-then-depth-eq0-clause-by_index
braced-returns-then-depth-eq0-clause-by_index t c f h = braced-deep _ _ _ _ (omega arith) c.if-s-at-ne-OPEN.false c.if-depth-eq0.true

pub braced-returns-in_err-inner-clause-by_index : goal.braced-returns-in_err-inner-clause-by_index
braced-returns-in_err-inner-clause-by_index t c f h =
    let same : c.from_residual.result ≡ Err c.in_err-inner.field-0.0 = search rules in
    same
    ∙ ap (close c.args.s.now) (sym c.in_err-inner.was ∙ c.block.ensures.by_index f (omega arith))
    ∙ braced-open c.args.s.now c.args.depth c.args.at _ (omega arith) c.if-s-at-ne-OPEN.false c.if-depth-eq0.false

pub braced-returns-clause-by_index : goal.braced-returns-clause-by_index
braced-returns-clause-by_index t c f h =
    c.closed.ensures
    ∙ ap (close c.args.s.now) (sym c.in_ok-inner.was ∙ c.block.ensures.by_index f (omega arith))
    ∙ braced-open c.args.s.now c.args.depth c.args.at _ (omega arith) c.if-s-at-ne-OPEN.false c.if-depth-eq0.false

pub item-returns-then-letter-eq-PLAIN-clause-by_index : goal.item-returns-then-letter-eq-PLAIN-clause-by_index
item-returns-then-letter-eq-PLAIN-clause-by_index t c f h =
    elim c.then-letter-eq-PLAIN.branch [
      | item-then-letter-eq-PLAIN-via-then-letter-eq-PLAIN w ↦ item-plain _ _ _ _ _ w.if-letter-eq-PLAIN.true
      | item-then-letter-eq-PLAIN-via-else-letter-eq-PLAIN+then-letter-eq-BARRIER w ↦ item-barrier _ _ _ _ _ w.if-letter-eq-PLAIN.false w.if-letter-eq-BARRIER.true
    ]

pub item-returns-in_err-body-clause-by_index : goal.item-returns-in_err-body-clause-by_index
item-returns-in_err-body-clause-by_index t c f h =
    let same : c.from_residual.result ≡ Err c.in_err-body.field-0.0 = search rules in
    same
    ∙ ap (added_to 1 0) (sym c.in_err-body.was ∙ c.braced.ensures.by_index f (omega arith))
    ∙ item-loop c.args.s.now c.args.depth c.args.at _ _ c.if-letter-eq-PLAIN.false c.if-letter-eq-BARRIER.false c.if-letter-eq-LOOP.true

pub item-returns-then-letter-eq-LOOP-clause-by_index : goal.item-returns-then-letter-eq-LOOP-clause-by_index
item-returns-then-letter-eq-LOOP-clause-by_index t c f h =
    ap given c.added.ensures
    ∙ ap (added_to 1 0) (sym c.in_ok-body.was ∙ c.braced.ensures.by_index f (omega arith))
    ∙ item-loop c.args.s.now c.args.depth c.args.at _ _ c.if-letter-eq-PLAIN.false c.if-letter-eq-BARRIER.false c.if-letter-eq-LOOP.true

pub item-returns-in_err-one-clause-by_index : goal.item-returns-in_err-one-clause-by_index
item-returns-in_err-one-clause-by_index t c f h =
    let same : c.from_residual-in_err-one.result ≡ Err c.in_err-one.field-0.0 = search rules in
    same
    ∙ ap (second f c.args.s.now c.args.depth) (sym c.in_err-one.was ∙ c.braced-then-letter-eq-BRANCH.ensures.by_index f (omega arith))
    ∙ item-branch c.args.s.now c.args.depth c.args.at _ _
    c.if-letter-eq-PLAIN.false c.if-letter-eq-BARRIER.false c.if-letter-eq-LOOP.false c.if-letter-eq-BRANCH.true

pub item-returns-in_err-other-clause-by_index : goal.item-returns-in_err-other-clause-by_index
item-returns-in_err-other-clause-by_index t c f h =
    let same : c.from_residual-in_err-other.result ≡ Err c.in_err-other.field-0.0 = search rules in
    let one = c.in_ok-one.one in
    let w = within-read _ _ c.in_ok-one.was c.braced-then-letter-eq-BRANCH.ensures.within in
    same
    ∙ ap (added_to (one.nodes + 2) one.constructs) (sym c.in_err-other.was ∙ c.braced-then-letter-eq-BRANCH-2.ensures.by_index f (omega (arith, w.0)))
    ∙ ap (second f c.args.s.now c.args.depth) (sym c.in_ok-one.was ∙ c.braced-then-letter-eq-BRANCH.ensures.by_index f (omega arith))
    ∙ item-branch c.args.s.now c.args.depth c.args.at _ _
    c.if-letter-eq-PLAIN.false c.if-letter-eq-BARRIER.false c.if-letter-eq-LOOP.false c.if-letter-eq-BRANCH.true

pub item-returns-then-letter-eq-BRANCH-clause-by_index : goal.item-returns-then-letter-eq-BRANCH-clause-by_index
item-returns-then-letter-eq-BRANCH-clause-by_index t c f h =
    let one = c.in_ok-one.one in
    let w = within-read _ _ c.in_ok-one.was c.braced-then-letter-eq-BRANCH.ensures.within in
    ap given c.added-then-letter-eq-BRANCH.ensures
    ∙ ap (added_to (one.nodes + 2) one.constructs) (sym c.in_ok-other.was ∙ c.braced-then-letter-eq-BRANCH-2.ensures.by_index f (omega (arith, w.0)))
    ∙ ap (second f c.args.s.now c.args.depth) (sym c.in_ok-one.was ∙ c.braced-then-letter-eq-BRANCH.ensures.by_index f (omega arith))
    ∙ item-branch c.args.s.now c.args.depth c.args.at _ _
    c.if-letter-eq-PLAIN.false c.if-letter-eq-BARRIER.false c.if-letter-eq-LOOP.false c.if-letter-eq-BRANCH.true

pub item-returns-then-kind-eq-NO_KIND-clause-by_index : goal.item-returns-then-kind-eq-NO_KIND-clause-by_index
item-returns-then-kind-eq-NO_KIND-clause-by_index t c f h =
    item-other c.args.s.now c.args.depth c.args.at _ _
    c.if-letter-eq-PLAIN.false c.if-letter-eq-BARRIER.false c.if-letter-eq-LOOP.false c.if-letter-eq-BRANCH.false
    (sym c.letter_kind-kind.ensures ∙ c.if-kind-eq-NO_KIND.true)

pub item-returns-in_err-inner-clause-by_index : goal.item-returns-in_err-inner-clause-by_index
item-returns-in_err-inner-clause-by_index t c f h =
    let same : c.from_residual-in_err-inner.result ≡ Err c.in_err-inner.field-0.0 = search rules in
    same
    ∙ ap (followed_after c.args.s.now (letter_kind (get_or c.args.s.now c.args.at 0))) (sym c.in_err-inner.was ∙ c.braced-2.ensures.by_index f (omega arith))
    ∙ item-around c.args.s.now c.args.depth c.args.at _ _
    c.if-letter-eq-PLAIN.false c.if-letter-eq-BARRIER.false c.if-letter-eq-LOOP.false c.if-letter-eq-BRANCH.false
    (λ q. c.if-kind-eq-NO_KIND.false (c.letter_kind-kind.ensures ∙ q))

pub item-returns-clause-by_index : goal.item-returns-clause-by_index
item-returns-clause-by_index t c f h =
    let k = c.letter_kind-kind.ensures in
    ap given c.followed.ensures
    ∙ ap (λ n. given (followed_at c.args.s.now n c.in_ok-inner.inner)) k
    ∙ ap (followed_after c.args.s.now (letter_kind (get_or c.args.s.now c.args.at 0))) (sym c.in_ok-inner.was ∙ c.braced-2.ensures.by_index f (omega arith))
    ∙ item-around c.args.s.now c.args.depth c.args.at _ _
    c.if-letter-eq-PLAIN.false c.if-letter-eq-BARRIER.false c.if-letter-eq-LOOP.false c.if-letter-eq-BRANCH.false
    (λ q. c.if-kind-eq-NO_KIND.false (k ∙ q))
