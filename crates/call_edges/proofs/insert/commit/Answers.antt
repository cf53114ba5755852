-- `call_edges::insert::commit` meets its contract.
-- Assumes nothing.
use mathlib.Core.Path.{refl, sym, ◌∙◌}
use Prim.Native.Nat.{◌+◌}
use native.Mathlib.Omega.{arith}
use lib.ListN.{length, take}
use lib.Seq.{length-take-le}
use Rattle.output.proofs.Outputs.{refused, passed}
use Rattle.chart_writing.proofs.Putting.{front, part_room}
use Rattle.call_edges.proofs.CommitLaws.{other_length, other_place, no-space, space}
use Rattle.call_edges.proofs.insert.commit.Goals as goal

pub returns-then-receipt-present : goal.returns-then-receipt-present
returns-then-receipt-present c = let p = refused _ _ _ _ (other_length (length c.args.buffer.now) c.args.receipt c.args.present c.if-receipt-present.true) in record { value = p.0; buffer_after = p.1 }

pub returns-then-receipt-present-2 : goal.returns-then-receipt-present-2
returns-then-receipt-present-2 c = let p = refused _ _ _ _ (other_place (length c.args.buffer.now) c.args.receipt c.args.present c.if-receipt-present.false c.if-receipt-present-2.true) in record { value = p.0; buffer_after = p.1 }

pub returns-then-buffer-size : goal.returns-then-buffer-size
returns-then-buffer-size c = let p = refused _ _ _ _ (no-space (length c.args.buffer.now) c.args.receipt c.args.present c.if-receipt-present.false c.if-receipt-present-2.false c.if-buffer-size.true) in record { value = p.0; buffer_after = p.1 }

pub slice_bounds-put_part-end : goal.slice_bounds-put_part-end
slice_bounds-put_part-end c =
    sym (length-take-le (c.args.present.length + 2) c.args.longer.now (omega arith))

pub put_part-requires : goal.put_part-requires
put_part-requires c =
    part_room c.args.longer.now (c.args.present.length + 2) _ (omega arith) c.if-buffer-size.false

pub returns : goal.returns
returns c =
    let buffer = c.args.buffer.now in
    let result = take (c.args.present.length + 2) c.args.longer.now in
    let late = space (length buffer) c.args.receipt c.args.present c.if-receipt-present.false c.if-receipt-present-2.false c.if-buffer-size.false in
    let (size, left) = passed _ _ result buffer refl late in
    record { value = size; buffer_after = front result buffer _ c.put_part.ensures.out_after c.put_part.ensures.out_unchanged ∙ left }
