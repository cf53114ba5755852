-- `print_listing::show` meets its contract: the chart that was written lies within the buffer.
-- Assumes nothing.
use mathlib.Core.Path.{◌≡◌, sym, ◌∙◌}
use mathlib.Core.List.{[]}
use Prim.Native.Nat.{◌≤◌}
use native.Mathlib.Omega.{arith}
use lib.ListN.{length, length-take}
use borrow.Author.Rules.{rules}
use Rattle.output.proofs.Outputs.{had-room}
use Rattle.theory_listing.specs.Grammar.{listed}
use Rattle.theory_listing.specs.Call.{block_rows, listing_bytes, listing_rows, listing_written}
use Rattle.print_listing.proofs.show.Goals as goal

pub slice_bounds-chart-end : goal.slice_bounds-chart-end
unfolding listing_written listing_rows
slice_bounds-chart-end g c =
    let room : c.in-Ok.size ≤ 3120 =
    let text = c.args.text.now in
    let r = had-room (block_rows (listed text)) [] 3120 (length (listing_bytes text)) (sym c.listing.ensures.value ∙ c.in-Ok.is) in
    omega (arith, r.0, r.1) in
    let long : length c.listing.new.out ≡ 3120 = search rules in
    omega (arith, room, long)

pub slice_bounds-print-end : goal.slice_bounds-print-end
unfolding listing_written listing_rows
slice_bounds-print-end g c =
    let room : c.in-Ok.size ≤ 3120 =
    let text = c.args.text.now in
    let r = had-room (block_rows (listed text)) [] 3120 (length (listing_bytes text)) (sym c.listing.ensures.value ∙ c.in-Ok.is) in
    omega (arith, r.0, r.1) in
    let long : length c.listing.new.out ≡ 3120 = search rules in
    omega (arith, room, long, length-take c.in-Ok.size c.listing.new.out)
