-- `answer_steps::edges::mark_edges` meets its contract. The loop's invariant: the edges passed are marked.
-- Assumes nothing.
use mathlib.Core.Path.{◌≡◌, refl, subst}
use Prim.Native.Nat.{ℕ, ◌-◌}
use native.Mathlib.Omega.{arith}
use Rattle.search.specs.Parts.{row}
use Rattle.answer_steps.specs.Words.{Marked}
use Rattle.answer_steps.proofs.Filling.{beside_none, beside-more}
use Rattle.answer_steps.proofs.Marking.{marked-none, marked_more}
use Rattle.answer_steps.proofs.edges.mark_edges.Goals as goal

pub loop-i-init : goal.loop-i-init
loop-i-init c = (omega arith, marked-none _ _ c.requires.by_index, beside_none _ _ _)

pub loop-i-preserved : goal.loop-i-preserved
loop-i-preserved c =
    let from = c.from-from.ensures in
    let to = c.from-to.ensures in
    let low = c.requires.n_bound.3 c.loop-i.i in
    let high = c.requires.n_bound.4 c.loop-i.i in (
      omega arith,
      marked_more _ _ _ _ from to (omega (arith, from, low)) (omega (arith, to, high)) refl (omega (arith, c.from-from.ensures, c.from-to.ensures, c.requires.n_bound.3 c.loop-i.i, c.requires.n_bound.4 c.loop-i.i, c.loop-i.invariant.2.long, c.requires.n_bound.2)) (rw c.bit.ensures refl) c.loop-i.invariant.1,
      beside-more _ _ (omega arith) (omega (arith, c.from-from.ensures, c.from-to.ensures, c.requires.n_bound.3 c.loop-i.i, c.requires.n_bound.4 c.loop-i.i, c.loop-i.invariant.2.long, c.requires.n_bound.2)) c.loop-i.invariant.2,
    )
