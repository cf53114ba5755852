-- `call_listing::drawing::write_chart` meets its contract.
-- Assumes nothing.
use mathlib.Core.Path.{◌≡◌, refl, sym, ◌∙◌}
use Prim.Native.Nat.{◌+◌, ◌*◌, ◌≤◌}
use native.Mathlib.Omega.{arith}
use lib.ListN.{length}
use lib.Seq.{length-take-le}
use Rattle.theory_listing.specs.Meaning.{block_bytes}
use Rattle.call_listing.proofs.Rows.{small-laid, small-counts, late-listing}
use Rattle.call_listing.proofs.drawing.write_chart.Goals as goal

pub draw-chart-requires : goal.draw-chart-requires
draw-chart-requires c =
    (c.requires, refl)

pub overflow_mul-size : goal.overflow_mul-size
overflow_mul-size c =
    let counts : let n = c.draw-chart.result in
    (n.nodes ≤ 192) × (n.edges ≤ 1024) × (n.constructs ≤ 48) × (length (block_bytes c.requires.block) ≡ 4 * n.nodes + 2 * n.edges + 4 * n.constructs + 16) =
    small-counts c.args.text.now c.args.nodes c.args.constructs c.requires c.draw-chart.result (c.draw-chart.ensures c.requires.block c.requires.last c.requires.read).0 in
    let (n, e, k, long) = counts in omega (arith, n, e, k)

pub overflow_mul-size-2 : goal.overflow_mul-size-2
overflow_mul-size-2 c =
    let counts : let n = c.draw-chart.result in
    (n.nodes ≤ 192) × (n.edges ≤ 1024) × (n.constructs ≤ 48) × (length (block_bytes c.requires.block) ≡ 4 * n.nodes + 2 * n.edges + 4 * n.constructs + 16) =
    small-counts c.args.text.now c.args.nodes c.args.constructs c.requires c.draw-chart.result (c.draw-chart.ensures c.requires.block c.requires.last c.requires.read).0 in
    let (n, e, k, long) = counts in omega (arith, n, e, k)

pub overflow_add-size : goal.overflow_add-size
overflow_add-size c =
    let counts : let n = c.draw-chart.result in
    (n.nodes ≤ 192) × (n.edges ≤ 1024) × (n.constructs ≤ 48) × (length (block_bytes c.requires.block) ≡ 4 * n.nodes + 2 * n.edges + 4 * n.constructs + 16) =
    small-counts c.args.text.now c.args.nodes c.args.constructs c.requires c.draw-chart.result (c.draw-chart.ensures c.requires.block c.requires.last c.requires.read).0 in
    let (n, e, k, long) = counts in omega (arith, n, e, k)

pub overflow_mul-size-3 : goal.overflow_mul-size-3
overflow_mul-size-3 c =
    let counts : let n = c.draw-chart.result in
    (n.nodes ≤ 192) × (n.edges ≤ 1024) × (n.constructs ≤ 48) × (length (block_bytes c.requires.block) ≡ 4 * n.nodes + 2 * n.edges + 4 * n.constructs + 16) =
    small-counts c.args.text.now c.args.nodes c.args.constructs c.requires c.draw-chart.result (c.draw-chart.ensures c.requires.block c.requires.last c.requires.read).0 in
    let (n, e, k, long) = counts in omega (arith, n, e, k)

pub overflow_add-size-2 : goal.overflow_add-size-2
overflow_add-size-2 c =
    let counts : let n = c.draw-chart.result in
    (n.nodes ≤ 192) × (n.edges ≤ 1024) × (n.constructs ≤ 48) × (length (block_bytes c.requires.block) ≡ 4 * n.nodes + 2 * n.edges + 4 * n.constructs + 16) =
    small-counts c.args.text.now c.args.nodes c.args.constructs c.requires c.draw-chart.result (c.draw-chart.ensures c.requires.block c.requires.last c.requires.read).0 in
    let (n, e, k, long) = counts in omega (arith, n, e, k)

pub overflow_add-size-3 : goal.overflow_add-size-3
overflow_add-size-3 c =
    let counts : let n = c.draw-chart.result in
    (n.nodes ≤ 192) × (n.edges ≤ 1024) × (n.constructs ≤ 48) × (length (block_bytes c.requires.block) ≡ 4 * n.nodes + 2 * n.edges + 4 * n.constructs + 16) =
    small-counts c.args.text.now c.args.nodes c.args.constructs c.requires c.draw-chart.result (c.draw-chart.ensures c.requires.block c.requires.last c.requires.read).0 in
    let (n, e, k, long) = counts in omega (arith, n, e, k)

pub slice_bounds-scratch-end : goal.slice_bounds-scratch-end
slice_bounds-scratch-end c =
    let counts : let n = c.draw-chart.result in
    (n.nodes ≤ 192) × (n.edges ≤ 1024) × (n.constructs ≤ 48) × (length (block_bytes c.requires.block) ≡ 4 * n.nodes + 2 * n.edges + 4 * n.constructs + 16) =
    small-counts c.args.text.now c.args.nodes c.args.constructs c.requires c.draw-chart.result (c.draw-chart.ensures c.requires.block c.requires.last c.requires.read).0 in
    let (n, e, k, long) = counts in omega (arith, n, e, k)

pub slice_bounds-hand_over-end : goal.slice_bounds-hand_over-end
slice_bounds-hand_over-end c =
    let counts : let n = c.draw-chart.result in
    (n.nodes ≤ 192) × (n.edges ≤ 1024) × (n.constructs ≤ 48) × (length (block_bytes c.requires.block) ≡ 4 * n.nodes + 2 * n.edges + 4 * n.constructs + 16) =
    small-counts c.args.text.now c.args.nodes c.args.constructs c.requires c.draw-chart.result (c.draw-chart.ensures c.requires.block c.requires.last c.requires.read).0 in
    let (n, e, k, long) = counts in
    sym (length-take-le _ _ (omega (arith, n, e, k)))

pub hand_over-requires : goal.hand_over-requires
hand_over-requires c =
    let counts : let n = c.draw-chart.result in
    (n.nodes ≤ 192) × (n.edges ≤ 1024) × (n.constructs ≤ 48) × (length (block_bytes c.requires.block) ≡ 4 * n.nodes + 2 * n.edges + 4 * n.constructs + 16) =
    small-counts c.args.text.now c.args.nodes c.args.constructs c.requires c.draw-chart.result (c.draw-chart.ensures c.requires.block c.requires.last c.requires.read).0 in
    let drawn = c.draw-chart.ensures c.requires.block c.requires.last c.requires.read in
    let is = rw counts.3 at drawn.1 in
    rw (is, drawn.0) (small-laid c.args.text.now c.args.nodes c.args.constructs c.requires)

pub returns : goal.returns
returns c =
    let counts : let n = c.draw-chart.result in
    (n.nodes ≤ 192) × (n.edges ≤ 1024) × (n.constructs ≤ 48) × (length (block_bytes c.requires.block) ≡ 4 * n.nodes + 2 * n.edges + 4 * n.constructs + 16) =
    small-counts c.args.text.now c.args.nodes c.args.constructs c.requires c.draw-chart.result (c.draw-chart.ensures c.requires.block c.requires.last c.requires.read).0 in
    let over = c.hand_over in
    let is = rw counts.3 at (c.draw-chart.ensures c.requires.block c.requires.last c.requires.read).1 in
    let late = late-listing c.args.text.now c.args.nodes c.args.constructs c.requires c.args.out.now in
    record { value = rw is at over.ensures.value ∙ late.0; out_after = rw is at over.ensures.out_after ∙ late.1 }
