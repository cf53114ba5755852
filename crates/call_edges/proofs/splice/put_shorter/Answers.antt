-- `call_edges::splice::put_shorter` meets its contract.
-- Assumes nothing.
use mathlib.Core.Path.{◌≡◌, sym}
use Prim.Native.Nat.{ℕ, ◌+◌, ◌*◌, ◌-◌}
use native.Mathlib.Omega.{arith}
use native.Mathlib.Nat.{zero-add}
use lib.ListN.{length, take}
use lib.Seq.{length-take-le}
use Rattle.call_edges.proofs.Splicing.{room_at, stands, shorter-put}
use Rattle.call_edges.proofs.splice.put_shorter.Goals as goal

pub overflow_mul-at : goal.overflow_mul-at
overflow_mul-at c = let f = room_at _ _ c.requires.0 (c.args.place + 1) (omega arith) in omega arith

pub overflow_mul-at-2 : goal.overflow_mul-at-2
overflow_mul-at-2 c = let f = room_at _ _ c.requires.0 (c.args.place + 1) (omega arith) in omega arith

pub overflow_add-at : goal.overflow_add-at
overflow_add-at c = let f = room_at _ _ c.requires.0 (c.args.place + 1) (omega arith) in omega arith

pub overflow_sub-size : goal.overflow_sub-size
overflow_sub-size c = let f = room_at _ _ c.requires.0 (c.args.place + 1) (omega arith) in omega arith

pub slice_bounds-put_part-end : goal.slice_bounds-put_part-end
slice_bounds-put_part-end c =
    let f = room_at _ _ c.requires.0 (c.args.place + 1) (omega arith) in
    sym (length-take-le (4 * c.args.chart.nodes + 2 * c.args.place) c.args.s.now (omega arith))

pub put_part-requires : goal.put_part-requires
put_part-requires c =
    let f = room_at _ _ c.requires.0 (c.args.place + 1) (omega arith) in
    omega (arith, length-take-le (4 * c.args.chart.nodes + 2 * c.args.place) c.args.s.now (omega arith))

pub overflow_add-at-2 : goal.overflow_add-at-2
overflow_add-at-2 c = let f = room_at _ _ c.requires.0 (c.args.place + 1) (omega arith) in omega arith

pub put_rest-requires : goal.put_rest-requires
put_rest-requires c =
    let f = room_at _ _ c.requires.0 (c.args.place + 1) (omega arith) in
    (omega arith, omega arith, rw c.with_edges.ensures (f.edition, f.nodes, omega arith, f.constructs))

pub put_byte-requires : goal.put_byte-requires
put_byte-requires c = let f = room_at _ _ c.requires.0 (c.args.place + 1) (omega arith) in omega arith

pub put_byte-requires-2 : goal.put_byte-requires-2
put_byte-requires-2 c = let f = room_at _ _ c.requires.0 (c.args.place + 1) (omega arith) in omega arith

pub returns : goal.returns
returns c = λ x y placed.
    let s = c.args.s.now in
    let at : ℕ = 4 * c.args.chart.nodes + 2 * c.args.place in
    let f = room_at _ _ c.requires.0 (c.args.place + 1) (omega arith) in
    let front : length (take at s) ≡ at = length-take-le at s (omega arith) in
    let all : at + (length s - (at + 2)) ≡ length s - 2 = omega arith in
    let whole : length s - 2 + 1 + 1 ≡ length s = omega arith in
    let before = rw (zero-add (length (take at s)), front) at c.put_part.ensures.out_after in
    let after = rw (all, c.with_edges.ensures) at c.put_rest.ensures in
    let (passes, is) = c.requires.0 in
    shorter-put s passes c.args.chart is x y at (stands s passes c.args.chart is x y placed)
    before after c.put_byte.ensures (rw whole at c.put_byte-2.ensures)
