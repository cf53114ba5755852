-- `check_nodes::counts::take_frames` meets its contract: after c turns the nodes of the first c constructs are taken.
-- Assumes nothing.
use mathlib.Core.Path.{◌≡◌, refl, ap, ◌∙◌}
use Prim.Native.Nat.{ℕ, ◌+◌, ◌*◌, ◌≤◌, ◌<◌}
use native.Mathlib.Omega.{arith}
use lib.Dec.{eqb}
use lib.ListN.{get_or, length-set}
use Rattle.lists.specs.Range.{any, any_next}
use Rattle.lists.specs.Store.{written_none, written-more}
use Rattle.check_nodes.specs.Framed.{not_noted, noted_at}
use Rattle.check_nodes.proofs.counts.take_frames.Goals as goal

pub loop-c-init : goal.loop-c-init
unfolding any
loop-c-init c =
    (omega arith, rw c.requires.3 refl, refl, rw c.requires.3 (written_none _ 64))

pub loop-c-preserved : goal.loop-c-preserved
loop-c-preserved c =
    let placed : c.from-row.result * 64 + c.loop-c.c ≡ c.args.kind * 64 + c.loop-c.c =
    omega (arith, c.from-row.ensures) in
    let low : (c.from-row.result ≤ 3) × (c.loop-c.c < 48) =
    (omega (arith, c.from-row.ensures, c.requires.0), omega (arith, c.loop-c-test.true, c.requires.1)) in
    let (below, long, lacks, written) = c.loop-c.invariant in (
      omega arith,
      length-set c.loop-c.frames c.loop-c.c _ ∙ long,
      cc (lacks, placed, any_next c.loop-c.c (λ p. eqb (noted_at c.args.kind c.args.noted.now p) not_noted)),
      written-more _ (omega (arith, low.1)) (ap (λ (p : ℕ). get_or c.args.noted.now p 0) placed) written,
    )
