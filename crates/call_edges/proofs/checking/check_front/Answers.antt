-- `call_edges::checking::check_front` meets its contract.
-- Assumes nothing.
use mathlib.Core.Path.{◌≡◌, refl, sym}
use lib.ListN.{length, take}
use lib.Seq.{length-take-le}
use Rattle.chart.specs.Checked.{checked_by}
use Rattle.call_edges.proofs.CheckLaws.{beyond, within}
use Rattle.call_edges.proofs.checking.check_front.Goals as goal

pub returns-then-buffer-len : goal.returns-then-buffer-len
unfolding checked_by
returns-then-buffer-len c = rw (beyond c.args.buffer.now c.args.len c.if-buffer-len.true)

pub slice_bounds-check_all-end : goal.slice_bounds-check_all-end
slice_bounds-check_all-end c =
    let long : length (take c.args.len c.args.buffer.now) ≡ c.args.len =
    length-take-le c.args.len c.args.buffer.now c.if-buffer-len.false in
    sym long

pub returns : goal.returns
returns c =
    let long : length (take c.args.len c.args.buffer.now) ≡ c.args.len =
    length-take-le c.args.len c.args.buffer.now c.if-buffer-len.false in
    rw (within c.args.buffer.now c.args.len refl long) c.check_all.ensures
