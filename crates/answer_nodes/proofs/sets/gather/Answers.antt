-- `answer_nodes::sets::gather` meets its contract. The loop's invariant: once the run is added, the sets have the nodes passed.
-- Assumes nothing.
use mathlib.Core.Path.{refl, sym, ◌∙◌}
use native.Mathlib.Omega.{arith}
use Rattle.lists.specs.Mask.{mask_of}
use Rattle.lists.specs.Bits.{mask_next}
use Rattle.answer_nodes.specs.Gathered.{having}
use Rattle.answer_nodes.proofs.Runs.{none-pending, mask-short, none-having}
use Rattle.answer_nodes.proofs.sets.gather.Goals as goal

pub loop-j-init : goal.loop-j-init
unfolding mask_of
loop-j-init c = (omega arith, rw c.requires.2 refl, λ b l. rw c.requires.2 (none-pending b))

pub loop-j-preserved : goal.loop-j-preserved
loop-j-preserved c =
    let e = c.args in (
      omega arith,
      c.take-run.ensures.0,
      λ b m. c.take-run.ensures.1 b m ∙ rw (c.loop-j.invariant.2 b m) (sym (mask_next (having e.closed.now e.masks.now e.first b) c.loop-j.j)),
    )

pub returns : goal.returns
returns c =
    let e = c.args in
    let (most, past) = c.count_from-end.ensures in
    let P = c.requires in
    record {
      at = λ b m. c.add.ensures.at b m ∙ c.loop-j.invariant.2 b m
          ∙ mask-short (having e.closed.now e.masks.now e.first b) c.loop-j.j 64 (omega arith)
          (λ j h k. none-having e.closed.now e.masks.now e.n e.first P.0 P.1 b j k (past j (omega arith) k));
    }
