-- `call_admit::count::unite` meets its contract: after x turns the ends of the first x nodes are united, and adding those of the last once
-- more changes nothing.
-- Assumes nothing.
use mathlib.Core.Path.{◌≡◌, refl}
use mathlib.Core.List.{List}
use Prim.Native.Nat.{ℕ}
use native.Mathlib.Omega.{arith}
use lib.ListN.{get_or, length-replicate}
use Rattle.chart.specs.Region.{Region}
use Rattle.theory_paths.specs.Phases.{forward, backward}
use Rattle.mark_tables.specs.Tables.{Masks}
use Rattle.masks.specs.Unions.{Added}
use Rattle.call_admit.proofs.Counting.{added-again, added-to-none, added-same, united-none, united-more}
use Rattle.call_admit.proofs.count.unite.Goals as goal
use Rattle.call_admit.proofs.count.unite.Goals.{then-node-ne0+then-ne, else-node-ne0, else-node-ne0-via-then-node-ne0+else-ne, else-node-ne0-via-else-node-ne0}

pub loop-x-init : goal.loop-x-init
loop-x-init c = (added-to-none _ refl (length-replicate {A = ℕ} 64 0), λ R S E. united-none R)

pub loop-x-preserved : goal.loop-x-preserved
loop-x-preserved c =
    let (again, united) = c.loop-x.invariant in
    let more = λ (m : List ℕ) (a : Added c.loop-x.unions (get_or c.args.starts.now c.loop-x.x 0) (get_or c.args.ends.now c.loop-x.x 0) m) (R : Region) (S : Masks forward R c.args.starts.now) (E : Masks backward R c.args.ends.now).
    united-more R c.args.starts.now c.args.ends.now S E c.loop-x.x (omega (arith, c.requires)) (united R S E) a in
    elim c.if-node-ne0.branch [
      | then-node-ne0+then-ne w ↦ rw (w.unions-is, w.last-is) (added-again w.add.ensures, more _ w.add.ensures)
      | else-node-ne0 w ↦ rw (w.unions-is, w.last-is) (
        again,
        more _ (elim w.else-node-ne0.branch [
          | else-node-ne0-via-then-node-ne0+else-ne v ↦ added-same _ _ _ _ v.if-ne.false v.ne.ensures again
          | else-node-ne0-via-else-node-ne0 v ↦ added-to-none _ v.if-node-ne0.false again.long
        ]),
      )
    ]

pub returns : goal.returns
returns c = λ R q S E.
    let e : c.loop-x.x ≡ R.nodes = omega arith in
    rw e at (c.loop-x.invariant.1 R S E)
