-- `answer_races::pairs::fill_races` meets its contract. The loop's invariant: the rows passed stand at the front of the buffer.
-- Assumes nothing.
use mathlib.Core.Path.{◌≡◌, refl, ap, ◌∙◌}
use Prim.Native.Nat.{ℕ, ◌+◌, ◌-◌, ◌/◌, ◌≤◌, ◌<◌}
use native.Mathlib.Omega.{arith}
use lib.ListN.{length, take, drop}
use Rattle.lists.specs.Rows.{start_of, start-next, filled, filled_none, filled_more, filled-all, part_length}
use Rattle.lists.specs.Tab.{tab}
use Rattle.lists.specs.Triangle.{pairs_from, pair_count}
use Rattle.theory_calls.specs.Access.{total, access_at}
use Rattle.answer_races.specs.Bytes.{line_at, by_line}
use Rattle.answer_races.specs.PairsLines.{line_byte}
use Rattle.answer_races.proofs.RowsLaws.{few-pairs, lent-long, row_fits}
use Rattle.answer_races.proofs.pairs.fill_races.Goals as goal

pub loop-i-init : goal.loop-i-init
unfolding total start_of
loop-i-init c = (omega arith, refl, record { is-long = refl }, filled_none _ _ _)

pub overflow_add-end : goal.overflow_add-end
unfolding total pair_count
overflow_add-end c =
    let few : (c.loop-i.at + (length c.args.accesses.now / 4 - c.loop-i.i) ≤ 524800) × (c.loop-i.i < 1024) =
    let n = length c.args.accesses.now / 4 in
    let most : n ≤ 1024 = omega (arith, c.requires.0) in
    let below : c.loop-i.i < n = omega arith in
    (omega (arith, row_fits n c.loop-i.i below, few-pairs n most, c.loop-i.invariant.1), omega (arith, most, below)) in
    omega (arith, few.0)

pub bounds-lines-node : goal.bounds-lines-node
unfolding access_at
bounds-lines-node c =
    let node : (c.from-node.result ≡ (access_at c.args.accesses.now c.loop-i.i).node) × (c.from-node.result < 192) =
    (c.from-node.ensures, omega (arith, c.from-node.ensures, (c.requires.2 c.loop-i.i).0)) in
    node.1

pub slice_bounds-fill_row-end : goal.slice_bounds-fill_row-end
unfolding total
slice_bounds-fill_row-end c =
    let room : c.loop-i.at + (length c.args.accesses.now / 4 - c.loop-i.i) ≤ length c.loop-i.out =
    omega (arith, row_fits (length c.args.accesses.now / 4) c.loop-i.i (omega arith), c.loop-i.invariant.1, c.loop-i.invariant.2.is-long, c.requires.1) in
    room

pub fill_row-requires : goal.fill_row-requires
unfolding total
fill_row-requires c =
    let room : c.loop-i.at + (length c.args.accesses.now / 4 - c.loop-i.i) ≤ length c.loop-i.out =
    omega (arith, row_fits (length c.args.accesses.now / 4) c.loop-i.i (omega arith), c.loop-i.invariant.1, c.loop-i.invariant.2.is-long, c.requires.1) in
    let row-part : let n = length c.args.accesses.now / 4 in
    let end = c.loop-i.at + (n - c.loop-i.i) in
    length (take (end - c.loop-i.at) (drop c.loop-i.at c.loop-i.out)) ≡ n - c.loop-i.i =
    part_length _ _ _ c.loop-i.out refl room in
    (c.link.ensures, c.requires.0, omega (arith, row-part), omega (arith, row-part), (λ j. (c.requires.2 j).0), (c.requires.2 c.loop-i.i).1)

pub loop-i-preserved : goal.loop-i-preserved
unfolding total access_at
loop-i-preserved c =
    let room : c.loop-i.at + (length c.args.accesses.now / 4 - c.loop-i.i) ≤ length c.loop-i.out =
    omega (arith, row_fits (length c.args.accesses.now / 4) c.loop-i.i (omega arith), c.loop-i.invariant.1, c.loop-i.invariant.2.is-long, c.requires.1) in
    let row-part : let n = length c.args.accesses.now / 4 in
    let end = c.loop-i.at + (n - c.loop-i.i) in
    length (take (end - c.loop-i.at) (drop c.loop-i.at c.loop-i.out)) ≡ n - c.loop-i.i =
    part_length _ _ _ c.loop-i.out refl room in
    let node : (c.from-node.result ≡ (access_at c.args.accesses.now c.loop-i.i).node) × (c.from-node.result < 192) =
    (c.from-node.ensures, omega (arith, c.from-node.ensures, (c.requires.2 c.loop-i.i).0)) in
    let list = c.args.accesses.now in
    let lines = c.args.lines.now in
    let i = c.loop-i.i in
    let (below, at, long, done) = c.loop-i.invariant in (
      omega arith,
      omega (arith, at, start-next (pairs_from (total list)) i),
      lent-long c.loop-i.at (c.loop-i.at + (length list / 4 - i)) c.loop-i.out _ (omega arith) room c.fill_row.ensures long,
      filled_more (pairs_from (total list)) (line_byte lines list) i _ _ c.args.out.now c.loop-i.out _ at refl done
          (c.fill_row.ensures ∙ ap (λ (m : ℕ). tab m (λ k. by_line (line_at lines c.from-node.result) (access_at list i) (access_at list (i + k)))) row-part
          ∙ ap (λ (a : ℕ). tab (length list / 4 - i) (λ k. by_line (line_at lines a) (access_at list i) (access_at list (i + k)))) node.0),
    )

pub returns : goal.returns
unfolding total
returns c =
    let list = c.args.accesses.now in
    let bytes = line_byte c.args.lines.now list in
    let z : c.loop-i.i ≡ total list = omega arith in
    c.loop-i.invariant.3 ∙ ap (λ (k : ℕ). filled (pairs_from (total list)) bytes k c.args.out.now) z
    ∙ filled-all (pairs_from (total list)) bytes (total list) c.args.out.now
