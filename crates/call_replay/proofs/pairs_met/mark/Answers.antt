-- `call_replay::pairs_met::mark` meets its contract.
-- Assumes nothing.
use mathlib.Core.Path.{◌≡◌}
use mathlib.Core.Logic.{inl, inr}
use Prim.Native.Nat.{ℕ, ◌+◌, ◌-◌, ◌*◌, ◌<◌}
use native.Mathlib.Omega.{arith}
use lib.ListN.{length}
use Rattle.call_replay.proofs.Sheets.{sheet-past, sheet-off, sheet-set, kept_same, kept_set, entry-fits}
use Rattle.call_replay.proofs.pairs_met.mark.Goals as goal

pub returns-then-n-b : goal.returns-then-n-b
returns-then-n-b c = record { by_index = (λ met S. sheet-past c.args.a c.args.b S c.if-n-b.true); kept = kept_same _ _ }

pub returns-then-a-rows : goal.returns-then-a-rows
returns-then-a-rows c = record { by_index = (λ met S. sheet-off c.args.a c.args.b S (inl c.if-a-rows.true)); kept = kept_same _ _ }

pub overflow_mul-out : goal.overflow_mul-out
overflow_mul-out c =
    let row : ℕ =
    c.args.a - c.args.rows.first in
    let room : row * c.args.n + c.args.b < length c.args.out.now =
    entry-fits c.args.n c.args.rows c.args.out.now row c.args.b c.if-i-rows.true (omega (arith, c.if-n-b.false)) c.requires in
    omega (arith, room)

pub overflow_add-out : goal.overflow_add-out
overflow_add-out c =
    let row : ℕ =
    c.args.a - c.args.rows.first in
    let room : row * c.args.n + c.args.b < length c.args.out.now =
    entry-fits c.args.n c.args.rows c.args.out.now row c.args.b c.if-i-rows.true (omega (arith, c.if-n-b.false)) c.requires in
    omega (arith, room)

pub bounds-out-i : goal.bounds-out-i
bounds-out-i c =
    let row : ℕ =
    c.args.a - c.args.rows.first in
    let room : row * c.args.n + c.args.b < length c.args.out.now =
    entry-fits c.args.n c.args.rows c.args.out.now row c.args.b c.if-i-rows.true (omega (arith, c.if-n-b.false)) c.requires in
    room

pub shape_of-out : goal.shape_of-out
shape_of-out c =
    let row : ℕ =
    c.args.a - c.args.rows.first in
    (kept_set c.args.n c.args.rows c.args.out.now row c.args.b c.if-i-rows.true (omega (arith, c.if-n-b.false)) c.requires).long

pub returns-then-i-rows : goal.returns-then-i-rows
returns-then-i-rows c =
    let row : ℕ =
    c.args.a - c.args.rows.first in
    let a = c.args in
    let node : a.b < a.n = omega (arith, c.if-n-b.false) in
    let at : a.rows.first + row ≡ a.a = omega (arith, c.if-a-rows.false) in record { by_index = (λ met S. sheet-set a.n a.rows a.out.now row a.b c.if-i-rows.true node c.requires met a.a at S); kept = kept_set a.n a.rows a.out.now row a.b c.if-i-rows.true node c.requires }

pub returns-else-i-rows : goal.returns-else-i-rows
returns-else-i-rows c = record { by_index = (λ met S. sheet-off c.args.a c.args.b S (inr (omega (arith, c.if-a-rows.false, c.if-i-rows.false)))); kept = kept_same _ _ }
