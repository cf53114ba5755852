-- `mark_tables::load::list_eight` meets its contract: after k turns the first k of the eight are listed.
-- Assumes nothing.
use mathlib.Core.Path.{◌≡◌}
use Prim.Native.Nat.{◌+◌}
use native.Mathlib.Omega.{arith}
use Rattle.mark_tables.proofs.Loading.{listing-more, room, most}
use Rattle.mark_tables.proofs.load.list_eight.Goals as goal

pub note-total-requires : goal.note-total-requires
note-total-requires c =
    let few = c.requires.1 in
    let L = c.loop-k.invariant.1 in
    (omega arith, most few L (omega arith), room few L (omega arith))

pub loop-k-preserved : goal.loop-k-preserved
loop-k-preserved c =
    let q : c.args.from + (c.loop-k.k + 1) ≡ c.args.from + c.loop-k.k + 1 = omega arith in
    (omega arith, rw q (listing-more c.requires.1 c.loop-k.invariant.1 (omega arith) c.note-total.ensures))
