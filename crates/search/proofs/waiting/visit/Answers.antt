-- `search::waiting::visit` meets its contract: each way out is one case of `Visited`, and the ring has room because each entry is counted.
-- Assumes nothing.
use Prim.Native.Nat.{suc, ◌<◌}
use native.Mathlib.Omega.{arith}
use mathlib.Core.Path.{◌≡◌}
use lib.ListN.{get_or, set}
use Rattle.lists.specs.Store.{filled, filled-set, filled-lt}
use Rattle.search.specs.Waiting.{same, kept, fresh}
use Rattle.search.proofs.waiting.visit.Goals as goal

pub returns-then-all-old : goal.returns-then-all-old
returns-then-all-old c = record { visited = same (c.if-all-old.true); upper_bound = c.requires.0.room }

pub returns-then-held-at-ne0 : goal.returns-then-held-at-ne0
returns-then-held-at-ne0 c =
    record { visited = (kept (c.if-all-old.false) (λ z. let t = c.if-held-at-ne0.true in omega arith)); upper_bound = c.requires.0.room }

pub overflow_add-ring : goal.overflow_add-ring
overflow_add-ring c =
    let free : (get_or c.args.held.now c.args.y 0 ≡ 0) =
    let t = c.if-held-at-ne0.false in omega arith in
    let counted : (let held = c.args.held.now in (filled (set held c.args.y 1) ≡ suc (filled held)) × (filled held < 192)) =
    let lt = filled-lt c.args.held.now c.args.y (omega arith) free in
    (filled-set _ _ _ (omega arith) free (omega arith), omega arith) in
    omega (arith, counted)

pub overflow_add-result : goal.overflow_add-result
overflow_add-result c =
    let free : (get_or c.args.held.now c.args.y 0 ≡ 0) =
    let t = c.if-held-at-ne0.false in omega arith in
    let counted : (let held = c.args.held.now in (filled (set held c.args.y 1) ≡ suc (filled held)) × (filled held < 192)) =
    let lt = filled-lt c.args.held.now c.args.y (omega arith) free in
    (filled-set _ _ _ (omega arith) free (omega arith), omega arith) in
    omega (arith, counted)

pub returns : goal.returns
returns c =
    let free : (get_or c.args.held.now c.args.y 0 ≡ 0) =
    let t = c.if-held-at-ne0.false in omega arith in
    let counted : (let held = c.args.held.now in (filled (set held c.args.y 1) ≡ suc (filled held)) × (filled held < 192)) =
    let lt = filled-lt c.args.held.now c.args.y (omega arith) free in
    (filled-set _ _ _ (omega arith) free (omega arith), omega arith) in
    record {
      visited = (fresh (c.if-all-old.false) free);
      upper_bound = (let k = counted in omega arith);
    }
