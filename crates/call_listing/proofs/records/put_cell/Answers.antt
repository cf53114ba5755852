-- `call_listing::records::put_cell` meets its contract.
-- Assumes nothing.
use mathlib.Core.Path.{◌≡◌, refl}
use mathlib.Core.List.{[], ◌∷◌}
use Prim.Native.Nat.{◌+◌, ◌*◌}
use native.Mathlib.Omega.{arith}
use native.Mathlib.Decide.{dec_lt}
use lib.ListN.{take}
use Rattle.chart_writing.specs.Encode.{flat}
use Rattle.chart_writing.proofs.Putting.{chained}
use Rattle.theory_listing.proofs.Flow.{two-same, two-below, two-above}
use Rattle.call_listing.proofs.Storing.{stored-cell}
use Rattle.call_listing.proofs.records.put_cell.Goals as goal

pub returns-then-x-y : goal.returns-then-x-y
unfolding flat
returns-then-x-y c sort lies q =
    let k = c.args.k in
    let n = c.args.e in
    let y = c.args.y in
    let low : c.min.result ≡ y = omega arith in
    rw c.if-x-y.true
    (rw (two-same y)
    (stored-cell k sort c.args.node.kind c.args.node.number lies q n (n + 1) _ c.args.edges.now _ _ (y ∷ []) c.put_record.ensures (rw low at c.put_edge.ensures) refl (omega arith)))

pub returns : goal.returns
unfolding flat
returns c sort lies q =
    let k = c.args.k in
    let n = c.args.e in
    let x = c.args.x in
    let y = c.args.y in
    let two : n + 1 + 1 ≡ n + 2 = omega arith in
    elim (dec_lt x y) [
      | yes h ↦
          let low : c.min.result ≡ x = omega arith in
          let high : c.max.result ≡ y = omega arith in
          rw (two-below x y h)
          (stored-cell k sort c.args.node.kind c.args.node.number lies q n (n + 2) _ c.args.edges.now _ _ (x ∷ (y ∷ [])) c.put_record.ensures
          (chained (take (2 * n) c.args.edges.now) (k ∷ (x ∷ [])) (k ∷ (y ∷ [])) (rw low at c.put_edge.ensures) (rw (two, high) at c.put_edge-2.ensures))
          refl (omega arith))
      | no h ↦
          let low : c.min.result ≡ y = omega arith in
          let high : c.max.result ≡ x = omega arith in
          rw (two-above x y (omega arith))
          (stored-cell k sort c.args.node.kind c.args.node.number lies q n (n + 2) _ c.args.edges.now _ _ (y ∷ (x ∷ [])) c.put_record.ensures
          (chained (take (2 * n) c.args.edges.now) (k ∷ (y ∷ [])) (k ∷ (x ∷ [])) (rw low at c.put_edge.ensures) (rw (two, high) at c.put_edge-2.ensures))
          refl (omega arith))
    ]
