-- `mark::returns::diagonal` meets its contract: after c turns the mask has the first c bits.
-- Assumes nothing.
use mathlib.Core.Path.{◌≡◌, refl, sym, ◌∙◌}
use Prim.Native.Nat.{ℕ, ◌+◌, ◌/◌, ◌^◌}
use lib.Pow.{shr-shr}
use lib.ListN.{get_or}
use Rattle.lists.specs.Mask.{mask_of}
use Rattle.lists.specs.Bits.{has, mask_next}
use Rattle.mark.proofs.returns.diagonal.Invariants.{own}
use Rattle.mark.proofs.returns.diagonal.Goals as goal

-- a bit of what is left of a mask
shifted : (m first c : ℕ) → has (m / 2 ^ first) c ≡ has m (first + c)
shifted m first c = rw (shr-shr m first c) refl

pub loop-c-init : goal.loop-c-init
unfolding mask_of
loop-c-init c = refl

pub loop-c-preserved : goal.loop-c-preserved
loop-c-preserved c =
    let masks = c.args.masks.now in
    let nodes = c.args.nodes.now in
    let first = c.args.first in
    c.add_bit-all.ensures ∙ rw (c.loop-c.invariant, shifted (get_or masks (get_or nodes c.loop-c.c 0) 0) first c.loop-c.c) (sym (mask_next (own masks nodes first) c.loop-c.c))
