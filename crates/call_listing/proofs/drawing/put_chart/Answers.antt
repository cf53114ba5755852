-- `call_listing::drawing::put_chart` meets its contract.
-- Assumes nothing.
use mathlib.Core.Path.{◌≡◌, sym}
use Prim.Native.Nat.{◌+◌, ◌*◌, ◌≤◌}
use native.Mathlib.Omega.{arith}
use lib.ListN.{length, take}
use lib.Seq.{length-take-le}
use Rattle.chart_writing.specs.Bytes.{trailer_bytes}
use Rattle.chart_writing.specs.Trailer.{trailer_for}
use Rattle.call_listing.proofs.TablesLaws.{chart-put}
use Rattle.call_listing.proofs.drawing.put_chart.Goals as goal

pub slice_bounds-put_part-end : goal.slice_bounds-put_part-end
slice_bounds-put_part-end c =
    let known : let a = c.args in let n = 4 * a.chart.nodes in let m = 2 * a.chart.edges in let k = 4 * a.chart.constructs in
    (length (take n a.nodes.now) ≡ n) × (length (take m a.edges.now) ≡ m) × (length (take k a.parts.now) ≡ k) × (n + m + k + 16 ≤ length a.out.now) =
    let a = c.args in
    let (long, small, (fn, fe, fc)) = c.requires in
    (length-take-le _ a.nodes.now fn, length-take-le _ a.edges.now fe, length-take-le _ a.parts.now fc, omega (arith, long, small.1, small.2, small.3)) in
    sym known.0

pub put_part-requires : goal.put_part-requires
put_part-requires c =
    let known : let a = c.args in let n = 4 * a.chart.nodes in let m = 2 * a.chart.edges in let k = 4 * a.chart.constructs in
    (length (take n a.nodes.now) ≡ n) × (length (take m a.edges.now) ≡ m) × (length (take k a.parts.now) ≡ k) × (n + m + k + 16 ≤ length a.out.now) =
    let a = c.args in
    let (long, small, (fn, fe, fc)) = c.requires in
    (length-take-le _ a.nodes.now fn, length-take-le _ a.edges.now fe, length-take-le _ a.parts.now fc, omega (arith, long, small.1, small.2, small.3)) in
    let (n, m, k, fits) = known in omega (arith, n, fits)

pub slice_bounds-put_part-end-2 : goal.slice_bounds-put_part-end-2
slice_bounds-put_part-end-2 c =
    let known : let a = c.args in let n = 4 * a.chart.nodes in let m = 2 * a.chart.edges in let k = 4 * a.chart.constructs in
    (length (take n a.nodes.now) ≡ n) × (length (take m a.edges.now) ≡ m) × (length (take k a.parts.now) ≡ k) × (n + m + k + 16 ≤ length a.out.now) =
    let a = c.args in
    let (long, small, (fn, fe, fc)) = c.requires in
    (length-take-le _ a.nodes.now fn, length-take-le _ a.edges.now fe, length-take-le _ a.parts.now fc, omega (arith, long, small.1, small.2, small.3)) in
    sym known.1

pub put_part-requires-2 : goal.put_part-requires-2
put_part-requires-2 c =
    let known : let a = c.args in let n = 4 * a.chart.nodes in let m = 2 * a.chart.edges in let k = 4 * a.chart.constructs in
    (length (take n a.nodes.now) ≡ n) × (length (take m a.edges.now) ≡ m) × (length (take k a.parts.now) ≡ k) × (n + m + k + 16 ≤ length a.out.now) =
    let a = c.args in
    let (long, small, (fn, fe, fc)) = c.requires in
    (length-take-le _ a.nodes.now fn, length-take-le _ a.edges.now fe, length-take-le _ a.parts.now fc, omega (arith, long, small.1, small.2, small.3)) in
    let (n, m, k, fits) = known in omega (arith, m, fits)

pub slice_bounds-put_part-end-3 : goal.slice_bounds-put_part-end-3
slice_bounds-put_part-end-3 c =
    let known : let a = c.args in let n = 4 * a.chart.nodes in let m = 2 * a.chart.edges in let k = 4 * a.chart.constructs in
    (length (take n a.nodes.now) ≡ n) × (length (take m a.edges.now) ≡ m) × (length (take k a.parts.now) ≡ k) × (n + m + k + 16 ≤ length a.out.now) =
    let a = c.args in
    let (long, small, (fn, fe, fc)) = c.requires in
    (length-take-le _ a.nodes.now fn, length-take-le _ a.edges.now fe, length-take-le _ a.parts.now fc, omega (arith, long, small.1, small.2, small.3)) in
    sym known.2

pub put_part-requires-3 : goal.put_part-requires-3
put_part-requires-3 c =
    let known : let a = c.args in let n = 4 * a.chart.nodes in let m = 2 * a.chart.edges in let k = 4 * a.chart.constructs in
    (length (take n a.nodes.now) ≡ n) × (length (take m a.edges.now) ≡ m) × (length (take k a.parts.now) ≡ k) × (n + m + k + 16 ≤ length a.out.now) =
    let a = c.args in
    let (long, small, (fn, fe, fc)) = c.requires in
    (length-take-le _ a.nodes.now fn, length-take-le _ a.edges.now fe, length-take-le _ a.parts.now fc, omega (arith, long, small.1, small.2, small.3)) in
    let (n, m, k, fits) = known in
    omega (arith, k, fits)

pub put_trailer-requires : goal.put_trailer-requires
put_trailer-requires c =
    let known : let a = c.args in let n = 4 * a.chart.nodes in let m = 2 * a.chart.edges in let k = 4 * a.chart.constructs in
    (length (take n a.nodes.now) ≡ n) × (length (take m a.edges.now) ≡ m) × (length (take k a.parts.now) ≡ k) × (n + m + k + 16 ≤ length a.out.now) =
    let a = c.args in
    let (long, small, (fn, fe, fc)) = c.requires in
    (length-take-le _ a.nodes.now fn, length-take-le _ a.edges.now fe, length-take-le _ a.parts.now fc, omega (arith, long, small.1, small.2, small.3)) in
    (omega (arith, known.3), c.requires.1)

pub returns : goal.returns
returns c =
    let a = c.args in
    let chart = a.chart in
    let (long, small, (fn, fe, fc)) = c.requires in
    chart-put (4 * chart.nodes) (2 * chart.edges) (4 * chart.constructs) a.out.now a.nodes.now a.edges.now a.parts.now _ _ _ _
    (trailer_bytes (trailer_for chart.edition chart.nodes chart.edges chart.constructs)) fn fe fc
    c.put_part.ensures.out_after c.put_part-2.ensures.out_after c.put_part-3.ensures.out_after c.put_trailer.ensures
