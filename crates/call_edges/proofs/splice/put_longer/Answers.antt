-- `call_edges::splice::put_longer` meets its contract.
-- Assumes nothing.
use mathlib.Core.Path.{◌≡◌, sym}
use Prim.Native.Nat.{ℕ, ◌+◌, ◌*◌, ◌-◌}
use native.Mathlib.Omega.{arith}
use native.Mathlib.Nat.{zero-add, add_assoc}
use lib.ListN.{length, take}
use Rattle.call_edges.proofs.Splicing.{front-room, room_for, stands, longer-put}
use Rattle.call_edges.proofs.splice.put_longer.Goals as goal

pub overflow_mul-at : goal.overflow_mul-at
overflow_mul-at c = let f = room_for _ _ c.requires.0 _ _ _ c.requires.1 in omega arith

pub overflow_mul-at-2 : goal.overflow_mul-at-2
overflow_mul-at-2 c = let f = room_for _ _ c.requires.0 _ _ _ c.requires.1 in omega arith

pub overflow_add-at : goal.overflow_add-at
overflow_add-at c = let f = room_for _ _ c.requires.0 _ _ _ c.requires.1 in omega arith

pub slice_bounds-put_part-end : goal.slice_bounds-put_part-end
slice_bounds-put_part-end c = sym (front-room _ (room_for _ _ c.requires.0 _ _ _ c.requires.1))

pub put_part-requires : goal.put_part-requires
put_part-requires c =
    let f = room_for _ _ c.requires.0 _ _ _ c.requires.1 in
    omega (arith, front-room _ f)

pub put_byte-requires : goal.put_byte-requires
put_byte-requires c = let f = room_for _ _ c.requires.0 _ _ _ c.requires.1 in omega arith

pub put_byte-requires-2 : goal.put_byte-requires-2
put_byte-requires-2 c = let f = room_for _ _ c.requires.0 _ _ _ c.requires.1 in omega arith

pub overflow_add-chart : goal.overflow_add-chart
overflow_add-chart c = let f = room_for _ _ c.requires.0 _ _ _ c.requires.1 in omega arith

pub put_rest-requires : goal.put_rest-requires
put_rest-requires c =
    let f = room_for _ _ c.requires.0 _ _ _ c.requires.1 in
    (f.whole, omega arith, rw c.with_edges.ensures (f.edition, f.nodes, omega arith, f.constructs))

pub returns : goal.returns
returns c =
    let s = c.args.s.now in
    let edge = c.args.edge in
    let at : ℕ = 4 * c.args.chart.nodes + 2 * c.args.place in
    let f = room_for _ _ c.requires.0 _ _ _ c.requires.1 in
    let all : at + 2 + (length s - at) ≡ length s + 2 = omega arith in
    let before = rw (zero-add (length (take at s)), front-room at f) at c.put_part.ensures.out_after in
    let after = rw (all, c.with_edges.ensures) at c.put_rest.ensures in
    let ((passes, is), placed, long) = c.requires in
    longer-put s passes c.args.chart is edge.from edge.to at (stands s passes c.args.chart is edge.from edge.to placed)
    before c.put_byte.ensures (rw (add_assoc at 1 1) at c.put_byte-2.ensures) after
