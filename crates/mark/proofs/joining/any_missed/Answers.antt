-- `mark::joining::any_missed` meets its contract: after some turns the blank masks so far are counted.
-- Assumes nothing.
use mathlib.Core.Path.{◌≡◌, refl, sym}
use mathlib.Core.List.{List}
use Prim.Native.Nat.{ℕ, ◌+◌, ◌<◌}
use native.Mathlib.Omega.{arith}
use lib.Dec.{eqb}
use lib.ListN.{get_or, take}
use mir.Val.{bool_byte}
use Rattle.lists.specs.Flags.{as-flag}
use Rattle.lists.specs.Range.{count, count_most, count-more}
use Rattle.search.proofs.Ranges.{front-same}
use Rattle.mark.proofs.joining.any_missed.Goals as goal

pub loop-mask-init : goal.loop-mask-init
unfolding count
loop-mask-init c = refl

-- one mask more
counted : (masks : List ℕ) (n i found add : ℕ) → i < n → found ≡ count i (λ y. eqb (get_or masks y 0) 0) → add ≡ bool_byte (eqb (get_or (take n masks) i 0) 0)
    → found + add ≡ count (i + 1) (λ y. eqb (get_or masks y 0) 0)
counted masks n i found add l e f = rw (e, f, front-same masks n i l, as-flag (eqb (get_or masks i 0) 0)) (sym (count-more i (λ y. eqb (get_or masks y 0) 0)))

pub overflow_add-found : goal.overflow_add-found
overflow_add-found c =
    let masks = c.args.masks.now in
    let next = counted masks c.args.n c.loop-mask.mask-index _ _ (omega (arith, c.loop-mask-test.true)) c.loop-mask.invariant c.from-found.ensures in
    omega (arith, next, count_most (c.loop-mask.mask-index + 1) (λ y. eqb (get_or masks y 0) 0), c.requires, c.loop-mask-test.true)

pub loop-mask-preserved : goal.loop-mask-preserved
loop-mask-preserved c = counted c.args.masks.now c.args.n _ _ _ (omega (arith, c.loop-mask-test.true)) c.loop-mask.invariant c.from-found.ensures
