-- `call_edges::splice::put_rest` meets its contract.
-- Assumes nothing.
use mathlib.Core.Path.{◌≡◌}
use Prim.Native.Nat.{◌+◌, ◌-◌}
use native.Mathlib.Omega.{arith}
use lib.ListN.{length, take, drop, length-drop}
use lib.Seq.{length-take-le}
use Rattle.theory_edits.specs.Splice.{records_from}
use Rattle.chart_writing.proofs.Putting.{chained}
use Rattle.call_edges.proofs.splice.put_rest.Goals as goal

pub returns : goal.returns
unfolding records_from
returns c =
    let s = c.args.s.now in
    let at = c.args.at in
    let from = c.args.from in
    let n = length s - 16 - from in
    let end : at + n + 16 ≡ at + (length s - from) = omega (arith, c.requires) in
    let long : length (take n (drop from s)) ≡ n = length-take-le n (drop from s) (omega (arith, length-drop from s)) in
    let part = rw long at c.put_part.ensures.out_after in
    rw end at (chained (take at c.args.out.now) (records_from s from) _ part c.put_trailer.ensures)
